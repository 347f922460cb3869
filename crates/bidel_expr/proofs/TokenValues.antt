-- The tokens of the bytes have the values that they write.
use Rattle.std.proofs.Common.{◌≡◌, ◌∷◌, [], ℕ, ◌-◌, ◌≤◌, ◌^◌, List, Bool, true, drop, ap, ◌∙◌, subst, cond, nat_le}
use Rattle.std.specs.Prelude.{Some, None, slice_range}
use Rattle.std.specs.Str.Parse.{digits_value}
use Rattle.std.proofs.lemmas.Bool.{le-leb}
use Rattle.par_base.specs.Literals.{literal_of}
use Rattle.bidel_lex.specs.declared.tokens.TokenKind.{TokenKind}
use Rattle.bidel_lex.specs.declared.tokens.TokenKind.TheVariants as kind
use Rattle.bidel_lex.specs.Spelled.{Spells, IsReference}
use Rattle.bidel_lex.proofs.FoundLaws.{spelled}
use Rattle.bidel_expr.specs.Lexemes.{lexeme_of, text_of, number_of, reference_of}
use Rattle.bidel_expr.specs.Laws.{TextsHaveValue, NumbersHaveValue, ReferencesHaveValue}
use Rattle.bidel_expr.proofs.DigitLemmas.{digits_have_value}
use Rattle.bidel_expr.proofs.TextLemmas.{text_has_value}

pub texts_have_value : TextsHaveValue
unfolding literal_of
texts_have_value bytes token h is =
    let text = subst (λ (k : TokenKind). Spells k (slice_range bytes token.start token.end)) is (spelled bytes token.start true token h) in
    let value = text_has_value (slice_range bytes token.start token.end) text in
    (value.0, value.1, value.2, ap (λ (k : TokenKind). text_of (lexeme_of k (slice_range bytes token.start token.end))) is ∙ value.3)

-- a value within its bound is there
within_bound : (n m most : ℕ) → n ≡ m → m ≤ most → cond (nat_le n most) (Some n) None ≡ Some m
within_bound n m most same small = ap (λ (k : ℕ). cond (nat_le k most) (Some k) None) same ∙ ap (λ (b : Bool). cond b (Some m) None) (le-leb m most small)

pub numbers_have_value : NumbersHaveValue
numbers_have_value bytes token h is =
    let number = subst (λ (k : TokenKind). Spells k (slice_range bytes token.start token.end)) is (spelled bytes token.start true token h) in
    ap (λ (k : TokenKind). number_of (lexeme_of k (slice_range bytes token.start token.end))) is
    ∙ within_bound _ _ (2 ^ 63) (digits_have_value _ number.0.1) number.1

reference_value : (written : List ℕ) → IsReference written → reference_of (lexeme_of kind.Reference written) ≡ Some (digits_value 10 (drop 1 written))
reference_value [] h = absurd h
reference_value (first ∷ digits) h = within_bound _ _ (2 ^ 64 - 1) (digits_have_value digits h.1.0.1) h.1.1

pub references_have_value : ReferencesHaveValue
references_have_value bytes token h is =
    let number = subst (λ (k : TokenKind). Spells k (slice_range bytes token.start token.end)) is (spelled bytes token.start true token h) in
    ap (λ (k : TokenKind). reference_of (lexeme_of k (slice_range bytes token.start token.end))) is ∙ reference_value (slice_range bytes token.start token.end) number
