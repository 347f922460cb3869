-- The tokens of the bytes lie within them.
use Rattle.std.proofs.Common.{◌≡◌, ◌≤◌, ◌-◌, ◌++◌, ℕ, zero, suc, List, [], ◌∷◌, Bool, true, false, refl, ap, ◌∙◌, length, take, drop, length-drop, arith, nat_le}
use Rattle.std.specs.Prelude.{◌&&◌, slice_range}
use Rattle.std.proofs.lemmas.List.{take-append-le, drop-append-le}
use Rattle.std.proofs.lemmas.Bool.{le-leb}
use Rattle.bidel_lex.specs.declared.tokens.Token.{Token}
use Rattle.bidel_lex.specs.declared.tokens.Lexed.TheVariants as lexed
use Rattle.bidel_lex.specs.Tokens.{AreTokens}
use Rattle.bidel_lex.proofs.WithinLaws.{within_along}
use Rattle.bidel_expr.specs.Within.{are_within}
use Rattle.bidel_expr.specs.Lexemes.{Lexeme, lexeme_of, lexeme, lexemes}

all_true : (a b c : Bool) → a ≡ true → b ≡ true → c ≡ true → ((a && b) && c) ≡ true
all_true true true true h k i = refl
all_true true true false h k i = cc
all_true true false c h k i = cc
all_true false b c h k i = cc

pub tokens_within : (bytes : List ℕ) (tokens : List Token) → AreTokens bytes tokens → are_within (length bytes) tokens ≡ true
tokens_within bytes [] h = refl
tokens_within bytes (token ∷ tokens) h =
    let w = within_along bytes token.start true (lexed.Token token) h.0 in
    let order : token.start ≤ token.end = omega (arith, w.1) in
    all_true (nat_le token.start token.end) (nat_le token.end (length bytes)) (are_within (length bytes) tokens)
    (le-leb token.start token.end order) (le-leb token.end (length bytes) w.2) (tokens_within bytes tokens h.2)

-- the bytes of a token stay as bytes come
written_stays : (bytes more : List ℕ) (start end : ℕ) → start ≤ end → end ≤ length bytes → slice_range (bytes ++ more) start end ≡ slice_range bytes start end
written_stays bytes more start end order within =
    let begun : start ≤ length bytes = omega arith in
    let short : end - start ≤ length (drop start bytes) = omega (arith, length-drop start bytes) in
    ap (take (end - start)) (drop-append-le start bytes more begun) ∙ take-append-le (end - start) (drop start bytes) more short

pub lexemes_stay : (bytes more : List ℕ) (tokens : List Token) → AreTokens bytes tokens → lexemes (bytes ++ more) tokens ≡ lexemes bytes tokens
lexemes_stay bytes more [] h = refl
lexemes_stay bytes more (token ∷ tokens) h =
    let w = within_along bytes token.start true (lexed.Token token) h.0 in
    let order : token.start ≤ token.end = omega (arith, w.1) in
    ap (λ (b : List ℕ). lexeme_of token.kind b ∷ lexemes (bytes ++ more) tokens) (written_stays bytes more token.start token.end order w.2)
    ∙ ap (λ (l : List Lexeme). lexeme bytes token ∷ l) (lexemes_stay bytes more tokens h.2)

pub rest_is_tokens : (bytes : List ℕ) (tokens : List Token) (at : ℕ) → AreTokens bytes tokens
    → AreTokens bytes (drop at tokens) × (lexemes bytes (drop at tokens) ≡ drop at (lexemes bytes tokens))
rest_is_tokens bytes tokens zero h = (h, refl)
rest_is_tokens bytes [] (suc at) h = (tt, refl)
rest_is_tokens bytes (token ∷ tokens) (suc at) h = rest_is_tokens bytes tokens at h.2
