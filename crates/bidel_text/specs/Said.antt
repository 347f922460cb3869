-- What a text says.
use Rattle.std.specs.Prelude.{ℕ, List, true}
use Rattle.bidel_lex.specs.declared.tokens.Token.{Token}
use Rattle.bidel_lex.specs.declared.tokens.Lexed.TheVariants as lexed
use Rattle.bidel_lex.specs.Tokens.{HasTokens}
use Rattle.bidel_expr.specs.Lexemes.{Lexeme, lexemes}

-- the tokens found in the text, up to its end, spell the value
pub record Says {A : Type 0} (S : List Lexeme → A → Type 0) (written : List ℕ) (a : A)
    : Type 0 where
  pub tokens : List Token
  pub found : HasTokens true written 0 tokens lexed.End
  pub spelled : S (lexemes written tokens) a
