-- The texts of a statement that isn't too long.
use Rattle.std.proofs.Common.{◌≡◌, ◌≤◌, ◌+◌, ◌-◌, ℕ, zero, suc, List, [], ◌∷◌, Bool, true, false, refl, ap, ◌∙◌, sym, subst, take, length, arith}
use Rattle.std.specs.Prelude.{slice_get}
use Rattle.std.specs.Option.{option_map_or}
use Rattle.std.specs.List.{All}
use Rattle.std.proofs.lemmas.Bool.{ltb-false, or_parts}
use Rattle.std.proofs.lemmas.List.{length-map}
use Rattle.std.proofs.lemmas.List.Elements.{All-nil, All-cons, All-head, All-weaker}
use Rattle.expr_lang.specs.Operations.{text_limit}
use Rattle.bidel_lex.specs.declared.tokens.Token.{Token}
use Rattle.bidel_lex.specs.declared.tokens.Lexed.TheVariants as lexed
use Rattle.bidel_lex.specs.Tokens.{AreTokens, StartFrom}
use Rattle.bidel_lex.proofs.WithinLaws.{within_along}
use Rattle.bidel_expr.specs.Lexemes.{lexeme, lexemes}
use Rattle.statements.specs.Views.{StatementView}
use Rattle.bidel_parser.specs.Parsing.{IsFront}
use Rattle.statements.specs.Texts.{TextsWithin}
use Rattle.bidel_parser.proofs.TextLengthsLaws.{texts_are_within}
use Rattle.bidel_script.specs.declared.tokens.Tail.{Tail}
use Rattle.bidel_script.specs.Tails.{is_over, begin_of}
use Rattle.bidel_script.specs.Lengths.{IsLong, whole, statement_limit, is_long, end_of, is_long_front}
use Rattle.bidel_script.proofs.ScriptLaws.{front_at_end}

-- the token lies between two places
abbrev Lies : ℕ → ℕ → Token → Type 0
Lies from upto token = (from ≤ token.start) × (token.start ≤ token.end) × (token.end ≤ upto)

-- the end of the last one of more tokens
later_end : (t : Token) (ts : List Token) (used : ℕ) → end_of (t ∷ ts) (suc (suc used)) ≡ end_of ts (suc used)
later_end t ts used =
    let one : suc (suc used) - 1 ≡ suc used = omega arith in
    let other : suc used - 1 ≡ used = omega arith in
    ap (λ (n : ℕ). option_map_or (λ (token : Token). token.end) (slice_get (t ∷ ts) n) 0) one
    ∙ sym (ap (λ (n : ℕ). option_map_or (λ (token : Token). token.end) (slice_get ts n) 0) other)

-- so many first tokens lie between the start of the first and the end of the last
tokens_lie : (bytes : List ℕ) (from : ℕ) (tokens : List Token) (used : ℕ) → AreTokens bytes tokens → StartFrom from tokens → used ≤ length tokens
    → All (Lies from (end_of tokens used)) (take used tokens)
tokens_lie bytes from tokens zero h s le = All-nil (Lies from (end_of tokens zero))
tokens_lie bytes from [] (suc used) h s le = absurd (omega (arith, le))
tokens_lie bytes from (t ∷ ts) (suc zero) h s le =
    let w = within_along bytes t.start true (lexed.Token t) h.0 in
    All-cons (Lies from t.end) t [] (s, omega (arith, w.1), omega arith) (All-nil (Lies from t.end))
tokens_lie bytes from (t ∷ []) (suc (suc used)) h s le = absurd (omega (arith, le))
tokens_lie bytes from (t ∷ u ∷ us) (suc (suc used)) h s le =
    let w = within_along bytes t.start true (lexed.Token t) h.0 in
    let upto : ℕ = end_of (u ∷ us) (suc used) in
    let rest : All (Lies t.end upto) (u ∷ take used us) = tokens_lie bytes t.end (u ∷ us) (suc used) h.2 h.1 (omega (arith, le)) in
    let next : Lies t.end upto u = All-head (Lies t.end upto) u (take used us) rest in
    let all : All (Lies from upto) (t ∷ u ∷ take used us) =
    All-cons (Lies from upto) t (u ∷ take used us) (s, omega (arith, w.1), omega (arith, next.0, next.1, next.2))
    (All-weaker (Lies t.end upto) (Lies from upto) (λ token l. (omega (arith, s, w.1, l.0), l.1, l.2)) (u ∷ take used us) rest) in
    subst (λ (n : ℕ). All (Lies from n) (t ∷ u ∷ take used us)) (sym (later_end t (u ∷ us) used)) all

-- the first token doesn't start before it does
begins_there : (tail : Tail) (tokens : List Token) → StartFrom (begin_of tail tokens) tokens
begins_there tail [] = tt
begins_there tail (t ∷ ts) = omega arith

module _ (bytes : List ℕ) (tail : Tail) (tokens : List Token) (statement : StatementView) (used : ℕ) (front : IsFront (is_over tail.last) (lexemes bytes tokens) statement used) where
  -- the first tokens of a statement that isn't too long lie within the limit
  front_lies : ¬ IsLong bytes tail tokens → end_of tokens used ≤ begin_of tail tokens + statement_limit
  front_lies short = by (is_long_front bytes tail tokens statement used) refl
    where
      by : (b : Bool) → is_long_front bytes tail tokens statement used ≡ b → end_of tokens used ≤ begin_of tail tokens + statement_limit
      by true e = absurd (short (whole statement used (front_at_end (is_over tail.last) (lexemes bytes tokens) statement used front) e))
      by false e = ltb-false (begin_of tail tokens + statement_limit) (end_of tokens used) ((or_parts (is_long (begin_of tail tokens) (end_of tokens used)) _ e).0)

  -- and so do its texts
  pub texts_within : AreTokens bytes tokens → ¬ IsLong bytes tail tokens → TextsWithin text_limit statement
  texts_within h short =
      let from : ℕ = begin_of tail tokens in
      let lie : All (Lies from (end_of tokens used)) (take used tokens) =
      tokens_lie bytes from tokens used h (begins_there tail tokens) (omega (arith, front.within, length-map tokens (lexeme bytes))) in
      let limit : end_of tokens used ≤ from + statement_limit = front_lies short in
      texts_are_within bytes tokens (is_over tail.last) statement used text_limit front
      (All-weaker (Lies from (end_of tokens used)) (λ token. token.end - token.start ≤ text_limit) (λ token l. omega (arith, l.0, l.1, l.2, limit)) (take used tokens) lie)
