-- Texts token by token, and that the lexer finds these tokens.
use Rattle.std.proofs.Common.{◌≡◌, ◌++◌, ◌∷◌, [], ℕ, ◌+◌, List, Bool, true, false, length, take, ◌-◌, ◌==◌, refl, ap, ◌∙◌, sym, subst, append_assoc, append-nil, length-append, arith}
use Rattle.std.specs.Prelude.{slice_range, ◌||◌}
use Rattle.std.proofs.lemmas.Bool.Decides.{nat_tests}
use Rattle.std.proofs.Math.Seq.{drop-append_seam, drop-append-add, take-append_seam}
use Rattle.bidel_lex.specs.declared.tokens.Token.{Token}
use Rattle.bidel_lex.specs.declared.tokens.TokenKind.{TokenKind}
use Rattle.bidel_lex.specs.declared.tokens.Lexed.TheVariants as lexed
use Rattle.bidel_lex.specs.Blanks.{EndBlanks, nothing, finished}
use Rattle.bidel_lex.specs.Classes.{is_digit, is_word_byte}
use Rattle.bidel_lex.specs.Next.{first_of, lexed_at, next_of, turn_at}
use Rattle.bidel_lex.specs.Spelled.{CanFollow, Spells}
use Rattle.bidel_lex.specs.Tokens.{HasTokens}
use Rattle.bidel_lex.proofs.ReadBackLaws.{token_exactly, end_exactly}
use Rattle.bidel_expr.specs.Lexemes.{Lexeme, lexeme_of, lexeme, lexemes}
use Rattle.bidel_text.specs.Said.{Says}

-- a text that is tokens and spaces, and what the tokens say
pub data Written : List ℕ → List Lexeme → Type 0 where
  over : Written [] []
  blank : (rest : List ℕ) (ts : List Lexeme) → Written rest ts → Written (32 ∷ rest) ts
  token : (k : TokenKind) (written rest : List ℕ) (ts : List Lexeme) → Spells k written → CanFollow k written true rest → Written rest ts → Written (written ++ rest) (lexeme_of k written ∷ ts)

-- a space is passed over
next_pass : (pre rest : List ℕ) → next_of (pre ++ 32 ∷ rest) (length pre) true ≡ next_of (pre ++ 32 ∷ rest) (length pre + 1) true
unfolding next_of lexed_at turn_at first_of
next_pass pre rest = rw (drop-append_seam pre (32 ∷ rest), drop-append-add pre (32 ∷ rest) 1) refl

-- from a place on, tokens that say this
abbrev Found : List ℕ → ℕ → List Lexeme → Type 0
Found bytes from ts = (tokens : List Token) × HasTokens true bytes from tokens lexed.End × (lexemes bytes tokens ≡ ts)

-- from a place with the same next token
shift : (bytes : List ℕ) (a b : ℕ) (tokens : List Token) → next_of bytes a true ≡ next_of bytes b true → HasTokens true bytes b tokens lexed.End → HasTokens true bytes a tokens lexed.End
shift bytes a b [] e h = (e ∙ h.0, h.1)
shift bytes a b (t ∷ tokens) e h = (e ∙ h.0, h.1)

-- what stands between two parts of a text
middle : (pre written rest : List ℕ) → slice_range (pre ++ (written ++ rest)) (length pre) (length pre + length written) ≡ written
middle pre written rest =
    let size : length pre + length written - length pre ≡ length written = omega arith in
    ap (λ (l : List ℕ). take (length pre + length written - length pre) l) (drop-append_seam pre (written ++ rest)) ∙ ap (λ (n : ℕ). take n (written ++ rest)) size ∙ take-append_seam written rest

-- the lexer finds the tokens of a text, whatever stands before it
found : (bytes : List ℕ) (ts : List Lexeme) → Written bytes ts → (pre : List ℕ) → Found (pre ++ bytes) (length pre) ts
found bytes ts over pre = ([], ((end_exactly (pre ++ []) (length pre) true).1 (refl, subst EndBlanks (sym (drop-append_seam pre [])) (finished nothing)), refl), refl)
found bytes ts (blank rest us w) pre =
    let more = found rest us w (pre ++ 32 ∷ []) in
    let place : length (pre ++ 32 ∷ []) ≡ length pre + 1 = length-append pre (32 ∷ []) in
    let same : Found (pre ++ 32 ∷ rest) (length pre + 1) us = subst (λ (n : ℕ). Found (pre ++ 32 ∷ rest) n us) place (subst (λ (l : List ℕ). Found l (length (pre ++ 32 ∷ [])) us) (append_assoc pre (32 ∷ []) rest) more) in
    (same.0, shift (pre ++ 32 ∷ rest) (length pre) (length pre + 1) same.0 (next_pass pre rest) same.1, same.2)
found bytes ts (token k written rest us spelled follows w) pre =
    let more = found rest us w (pre ++ written) in
    let place : length (pre ++ written) ≡ length pre + length written = length-append pre written in
    let same : Found (pre ++ (written ++ rest)) (length pre + length written) us =
    subst (λ (n : ℕ). Found (pre ++ (written ++ rest)) n us) place (subst (λ (l : List ℕ). Found l (length (pre ++ written)) us) (append_assoc pre written rest) more) in
    let here : Token = record { kind = k; start = length pre; end = length pre + length written } in
    let first = (token_exactly (pre ++ (written ++ rest)) (length pre) true here).1 (record {
      gap = [];
      text = written;
      rest = rest;
      split = drop-append_seam pre (written ++ rest);
      blank = nothing;
      spells = spelled;
      follows = follows;
      start = omega arith;
      end = refl;
    }) in
    let says : lexeme (pre ++ (written ++ rest)) here ≡ lexeme_of k written = ap (lexeme_of k) (middle pre written rest) in
    (here ∷ same.0, (first, same.1), ap (λ (t : Lexeme). t ∷ lexemes (pre ++ (written ++ rest)) same.0) says ∙ ap (λ (l : List Lexeme). lexeme_of k written ∷ l) same.2)

-- ---- what may follow any token: a space, or what closes it

-- a space, `(`, `)`, `,`, `;` or `.`
abbrev pub is_end : ℕ → Bool
is_end b = b == 32 || b == 40 || b == 44 || b == 59 || b == 41 || b == 46

-- nothing, or such a byte first
abbrev pub ends : List ℕ → Bool
ends [] = true
ends (b ∷ bytes) = is_end b

pub ends_append : (xs ys : List ℕ) → ends xs ≡ true → ends ys ≡ true → ends (xs ++ ys) ≡ true
ends_append [] ys h k = k
ends_append (x ∷ xs) ys h k = h

pub word_end : (b : ℕ) → is_end b ≡ true → is_word_byte b ≡ false
word_end b h = grind (arith, nat_tests)

pub digit_end : (b : ℕ) → is_end b ≡ true → is_digit b ≡ false
digit_end b h = grind (arith, nat_tests)

pub quote_end : (b : ℕ) → is_end b ≡ true → b == 39 ≡ false
quote_end b h = grind (arith, nat_tests)

-- a text that is a phrase, before what may follow any token
pub record Front {A : Type 0} (S : List Lexeme → A → Type 0) (bytes : List ℕ) (a : A) : Type 0 where
  pub tokens : List Lexeme
  pub spelled : S tokens a
  pub written : (rest : List ℕ) (us : List Lexeme) → ends rest ≡ true → Written rest us → Written (bytes ++ rest) (tokens ++ us)

-- it says so by itself
pub said : {A : Type 0} (S : List Lexeme → A → Type 0) (bytes : List ℕ) (a : A) → Front S bytes a → Says S bytes a
said S bytes a f =
    let all : Written bytes f.tokens = subst (λ (l : List ℕ). Written l f.tokens) (append-nil bytes) (subst (λ (l : List Lexeme). Written (bytes ++ []) l) (append-nil f.tokens) (f.written [] [] refl over)) in
    let h = found bytes f.tokens all [] in
    record { tokens = h.0; found = h.1; spelled = subst (λ (l : List Lexeme). S l a) (sym h.2) f.spelled }
