-- A text has one list of tokens, and is the canonical text of one operator.
use Rattle.std.specs.Prelude.{Option, Some, None}
use Rattle.std.proofs.Common.{◌≡◌, ◌++◌, ℕ, List, [], ◌∷◌, true, false, refl, sym, ap, subst, ◌∙◌, append-nil}
use Rattle.bidel_lex.specs.declared.tokens.Token.{Token}
use Rattle.bidel_lex.specs.declared.tokens.Lexed.{Lexed}
use Rattle.bidel_lex.specs.declared.tokens.Lexed.TheVariants as lexed
use Rattle.bidel_lex.specs.Next.{next_of}
use Rattle.bidel_lex.specs.Tokens.{AreTokens, HasTokens, is_token}
use Rattle.bidel_lex.proofs.ListedLaws.{listed}
use Rattle.bidel_expr.specs.Lexemes.{lexemes}
use Rattle.bidel_parser.specs.Operators.{Operator}
use Rattle.bidel_parser.specs.Parsing.{NoOperator}
use Rattle.bidel_parser.specs.Laws.{OneOperator}
use Rattle.bidel_text.specs.OperatorText.{operator_text}
use Rattle.bidel_text.specs.Said.{Says}
use Rattle.bidel_text.specs.Laws.{OperatorsAreSaid}
use Rattle.statements.specs.Views.{OpView}
use Rattle.dump_graph.specs.inner.Texts.{FindsTokens, IsTextOf, KeepsText, ReadsText}

-- an answer that is no token
pub no_token : (last : Lexed) → ((token : Token) → last ≡ lexed.Token token → ⊥) → is_token last ≡ false
no_token (lexed.Token token) n = absurd (n token refl)
no_token lexed.More n = refl
no_token lexed.End n = refl
no_token (lexed.BadToken at) n = refl

-- tokens that were found so far, up to an answer that is none
pub found_tokens : (bytes : List ℕ) (from : ℕ) (tokens : List Token)
    → ((more : List Token) (last : Lexed) → HasTokens true bytes from more last → HasTokens true bytes 0 (tokens ++ more) last)
    → is_token (next_of bytes from true) ≡ false → HasTokens true bytes 0 tokens (next_of bytes from true)
found_tokens bytes from tokens f n =
    subst (λ (ts : List Token). HasTokens true bytes 0 ts (next_of bytes from true)) (append-nil tokens) (f [] (next_of bytes from true) (refl, n))

token_is : (t u : Token) → lexed.Token t ≡ lexed.Token u → t ≡ u
token_is t u e = cc

not_both : (t : Token) (last : Lexed) → is_token last ≡ false → lexed.Token t ≡ last → ⊥
not_both t last other is = let clash : true ≡ false = ap is_token is ∙ other in cc

-- one list of tokens, with one end
pub one_list : (bytes : List ℕ) (from : ℕ) (xs ys : List Token) (last other : Lexed)
    → HasTokens true bytes from xs last → HasTokens true bytes from ys other → (xs ≡ ys) × (last ≡ other)
one_list bytes from [] [] last other x y = (refl, sym x.0 ∙ y.0)
one_list bytes from [] (u ∷ ys) last other x y = absurd (not_both u last x.1 (sym y.0 ∙ x.0))
one_list bytes from (t ∷ xs) [] last other x y = absurd (not_both t other y.1 (sym x.0 ∙ y.0))
one_list bytes from (t ∷ xs) (u ∷ ys) last other x y =
    let same : t ≡ u = token_is t u (sym x.0 ∙ y.0) in
    let rest = one_list bytes t.end xs ys last other x.1 (subst (λ (v : Token). HasTokens true bytes v.end ys other) (sym same) y.1) in
    (ap (λ (v : Token). v ∷ xs) same ∙ ap (λ (l : List Token). u ∷ l) rest.0, rest.1)

-- another end is no end of the bytes
pub other_end : (bytes : List ℕ) (tokens : List Token) (last : Lexed) → HasTokens true bytes 0 tokens last → (last ≡ lexed.End → ⊥) → FindsTokens bytes None
other_end bytes tokens last has other ts ends = other (one_list bytes 0 tokens ts last lexed.End has ends).1

-- they are the bytes' tokens
pub are_tokens : (bytes : List ℕ) (tokens : List Token) → HasTokens true bytes 0 tokens lexed.End → AreTokens bytes tokens
are_tokens bytes tokens has = listed bytes 0 true tokens lexed.End has

module _ (said : OperatorsAreSaid) where
  -- the tokens of a canonical text spell its operator
  tokens_spell : (written : List ℕ) (o : OpView) → IsTextOf written o → Says Operator written o
  tokens_spell written o is = subst (λ (w : List ℕ). Says Operator w o) is.1 (said o is.0.0 is.0.1)

  -- bytes without tokens are no text
  pub no_text : (written : List ℕ) → FindsTokens written None → ReadsText written None
  no_text written none o is = let s = tokens_spell written o is in none s.tokens s.found

  -- these tokens spell the operator
  pub these_spell : (written : List ℕ) (tokens : List Token) (o : OpView) → HasTokens true written 0 tokens lexed.End → IsTextOf written o → Operator (lexemes written tokens) o
  these_spell written tokens o has is =
      let s = tokens_spell written o is in
      subst (λ (ts : List Token). Operator (lexemes written ts) o) (one_list written 0 s.tokens tokens lexed.End lexed.End s.found has).0 s.spelled

  -- tokens that spell no operator are of no text
  pub no_operator : (written : List ℕ) (tokens : List Token) → HasTokens true written 0 tokens lexed.End → NoOperator (lexemes written tokens) → ReadsText written None
  no_operator written tokens has none o is = none o (these_spell written tokens o has is)

  module _ (one : OneOperator) (written : List ℕ) (tokens : List Token) (o : OpView) (has : HasTokens true written 0 tokens lexed.End) (spelled : Operator (lexemes written tokens) o) where
    -- no other operator has the text
    same_operator : (other : OpView) → IsTextOf written other → other ≡ o
    same_operator other is = one (lexemes written tokens) other o (these_spell written tokens other has is) spelled

    -- the text is this operator's
    pub is_read : operator_text o ≡ written → ReadsText written (Some o)
    is_read is = (((lexemes written tokens, spelled), is), same_operator)

    -- the text is no operator's canonical one
    pub not_canonical : (operator_text o ≡ written → ⊥) → ReadsText written None
    not_canonical differs other is = differs (ap operator_text (sym (same_operator other is)) ∙ is.1)

-- the operator that was kept is the one of which it is the text, and where none was kept there is none
pub kept_is : OperatorsAreSaid → OneOperator → (written : List ℕ) (tokens : List Token) (o : OpView) (found : Option OpView)
    → HasTokens true written 0 tokens lexed.End → Operator (lexemes written tokens) o → KeepsText written o found → ReadsText written found
kept_is said one written tokens o None has spelled kept = not_canonical said one written tokens o has spelled kept
kept_is said one written tokens o (Some k) has spelled kept = subst (λ x. ReadsText written (Some x)) (sym kept.0) (is_read said one written tokens o has spelled kept.1)
