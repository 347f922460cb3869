-- Tokens that spell a statement are its front, where nothing comes behind them.
use Rattle.std.proofs.Common.{◌≡◌, List, [], ◌∷◌, true, false, refl, sym, subst, length, drop, arith}
use Rattle.std.proofs.lemmas.List.{take_all}
use Rattle.bidel_expr.specs.Lexemes.{Lexeme}
use Rattle.statements.specs.Views.{StatementView}
use Rattle.bidel_parser.specs.Statements.{IsStatement, stays_open}
use Rattle.bidel_parser.specs.Parsing.{IsFront}
use Rattle.bidel_parser.proofs.StatementLaws.{script_over}

none_left : (ts : List Lexeme) → drop (length ts) ts ≡ []
none_left [] = refl
none_left (t ∷ ts) = none_left ts

pub whole_front : (ts : List Lexeme) (s : StatementView) → IsStatement ts s → IsFront true ts s (length ts)
whole_front ts s h = record {
  within = omega arith;
  spelled = subst (λ (l : List Lexeme). IsStatement l s) (sym (take_all (length ts) ts (omega arith))) h;
  over = subst (λ (l : List Lexeme). stays_open s true l ≡ false) (sym (none_left ts)) (script_over s [] [] refl);
}
