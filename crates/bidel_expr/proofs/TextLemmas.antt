-- What texts say.
use Rattle.std.proofs.Common.{◌≡◌, ◌++◌, ◌∷◌, [], ℕ, ◌-◌, List, Bool, true, false, length, take, flat_map, refl, ap, ◌∙◌, sym, cond, arith, length-append}
use Rattle.std.specs.Prelude.{Some, None, IsUtf8, ◌==◌}
use Rattle.std.specs.Str.{is_utf8}
use Rattle.std.proofs.lemmas.Str.{IsUtf8-from_is_utf8, is_utf8-from_IsUtf8}
use Rattle.std.proofs.lemmas.List.{take-append-le, take_all}
use Rattle.par_base.specs.Literals.{undoubled, quoted, doubled}
use Rattle.par_base.proofs.LiteralLaws.{undoubled-doubled}
use Rattle.bidel_lex.specs.declared.tokens.TokenKind.TheVariants as kind
use Rattle.bidel_lex.specs.Spelled.{IsText, doubled as doubled_bytes}
use Rattle.bidel_expr.specs.Lexemes.{lexeme_of, between, text_of}

-- a text in UTF-8 has its value
pub utf8_text : (made bytes : List ℕ) → made ≡ bytes → IsUtf8 bytes → Some made ≡ cond (is_utf8 bytes) (Some bytes) None
utf8_text made bytes same valid = ap (λ (l : List ℕ). Some l) same ∙ sym (ap (λ (b : Bool). cond b (Some bytes) None) (is_utf8-from_IsUtf8 bytes valid))

pub other_text : (bytes : List ℕ) → (IsUtf8 bytes → ⊥) → None ≡ cond (is_utf8 bytes) (Some bytes) None
other_text bytes bad = by (is_utf8 bytes) refl
  where
    by : (b : Bool) → is_utf8 bytes ≡ b → None ≡ cond b (Some bytes) None
    by true e = absurd (bad (IsUtf8-from_is_utf8 bytes e))
    by false e = refl

doubled_more : (b : ℕ) (text more : List ℕ) → doubled_bytes text ≡ more → doubled_bytes (b ∷ text) ≡ doubled b ++ more
unfolding doubled_bytes
doubled_more b text more same = by (b == 39)
  where
    by : (t : Bool) → cond t (39 ∷ 39 ∷ doubled_bytes text) (b ∷ doubled_bytes text) ≡ cond t (39 ∷ 39 ∷ []) (b ∷ []) ++ more
    by true = ap (λ (l : List ℕ). 39 ∷ 39 ∷ l) same
    by false = ap (λ (l : List ℕ). b ∷ l) same

-- the lexer's words for a quote twice
one_doubling : (text : List ℕ) → doubled_bytes text ≡ flat_map doubled text
unfolding doubled_bytes
one_doubling [] = refl
one_doubling (b ∷ text) = doubled_more b text (flat_map doubled text) (one_doubling text)

-- what stands between the quotes
between_quotes : (body : List ℕ) → between (39 ∷ (body ++ 39 ∷ [])) ≡ body
between_quotes body = let long : length (39 ∷ (body ++ 39 ∷ [])) - 2 ≡ length body = omega (arith, length-append body (39 ∷ [])) in
    ap (λ (n : ℕ). take n (body ++ 39 ∷ [])) long ∙ take-append-le (length body) body (39 ∷ []) (omega arith) ∙ take_all (length body) body (omega arith)

-- a text has the value whose literal text it is
pub text_has_value : (written : List ℕ) → IsText written → (body : List ℕ) × IsUtf8 body × (written ≡ quoted body) × (text_of (lexeme_of kind.Text written) ≡ Some body)
text_has_value written h =
    let same : written ≡ quoted h.body = h.quoted ∙ ap (λ (l : List ℕ). 39 ∷ (l ++ 39 ∷ [])) (one_doubling h.body) in
    let inner : undoubled false (between written) ≡ h.body = ap (λ (l : List ℕ). undoubled false (between l)) same ∙ ap (undoubled false) (between_quotes (flat_map doubled h.body)) ∙ undoubled-doubled h.body in
    (h.body, h.utf8, same, ap (λ (l : List ℕ). cond (is_utf8 l) (Some l) None) inner ∙ sym (utf8_text h.body h.body refl h.utf8))
