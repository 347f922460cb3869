-- What some first bytes fix stays as more bytes come: their tokens, what these say, and the bytes that show them.
use Rattle.std.proofs.Common.{◌≡◌, ◌+◌, ◌-◌, ◌≤◌, ◌<◌, ◌++◌, ℕ, zero, suc, List, [], ◌∷◌, Bool, true, false, inl, inr, refl, sym, ap, subst, ◌∙◌, take, drop, length, arith, length-drop, length-append}
use Rattle.std.specs.Prelude.{slice_range, slice_get}
use Rattle.std.proofs.lemmas.List.{drop_at, drop-drop, drop-append-le, take-append-le, take_all, map-append}
use Rattle.std.proofs.lemmas.Bool.Decides.{leb_tells}
use Rattle.bidel_lex.specs.declared.tokens.Token.{Token}
use Rattle.bidel_lex.specs.declared.tokens.Lexed.{Lexed}
use Rattle.bidel_lex.specs.declared.tokens.Lexed.TheVariants as lexed
use Rattle.bidel_lex.specs.Blanks.{nothing}
use Rattle.bidel_lex.specs.Next.{next_of}
use Rattle.bidel_lex.specs.Tokens.{HasTokens, is_token}
use Rattle.bidel_lex.proofs.ReadBackLaws.{token_exactly}
use Rattle.bidel_lex.proofs.WithinLaws.{within_along}
use Rattle.bidel_lex.proofs.StableLaws.{stable}
use Rattle.bidel_expr.specs.Lexemes.{Lexeme, lexeme, lexeme_of, lexemes}
use Rattle.bidel_parser.specs.Parsing.{start_of}
use Rattle.bidel_script.specs.declared.tokens.Tail.{Tail}
use Rattle.bidel_script.specs.Tails.{shown_end, tail_end, known_end, begin_of, last_end}
use Rattle.bidel_script.proofs.TokenLaws.{same_token}
use Rattle.bidel_script.proofs.KnownLemmas.{by_end}

-- a token is found again from its own start
again : (bytes : List ℕ) (from : ℕ) (ended : Bool) (token : Token) → next_of bytes from ended ≡ lexed.Token token → next_of bytes token.start ended ≡ lexed.Token token
again bytes from ended token h =
    let t = (token_exactly bytes from ended token).0 h in
    let split : drop token.start bytes ≡ t.text ++ t.rest =
    ap (λ (k : ℕ). drop k bytes) t.start ∙ sym (drop-drop (length t.gap) from bytes) ∙ ap (drop (length t.gap)) t.split ∙ drop_at t.gap (t.text ++ t.rest) (length t.gap) refl in
    (token_exactly bytes token.start ended token).1 (record {
      gap = [];
      text = t.text;
      rest = t.rest;
      split = split;
      blank = nothing;
      spells = t.spells;
      follows = t.follows;
      start = omega arith;
      end = t.end;
    })

-- each token is found at its start, whatever bytes follow
abbrev pub Shown : List ℕ → List Token → Type 0
Shown front [] = Unit {0}
Shown front (t ∷ ts) = (next_of front t.start false ≡ lexed.Token t) × Shown front ts

-- so are all tokens of bytes that may go on
pub all_shown : (front : List ℕ) (from : ℕ) (ts : List Token) (last : Lexed) → HasTokens false front from ts last → Shown front ts
all_shown front from [] last h = tt
all_shown front from (t ∷ ts) last h = (again front from false t h.0, all_shown front t.end ts last h.1)

-- and those behind some of them
pub shown_drop : (front : List ℕ) (n : ℕ) (ts : List Token) → Shown front ts → Shown front (drop n ts)
shown_drop front zero ts h = h
shown_drop front (suc n) [] h = tt
shown_drop front (suc n) (t ∷ ts) h = shown_drop front n ts h.1

-- the place where some tokens begin isn't behind the place where they end
end_later : (ended : Bool) (bytes : List ℕ) (from : ℕ) (ts : List Token) (last : Lexed) → HasTokens ended bytes from ts last → from ≤ last_end from ts
end_later ended bytes from [] last h = omega arith
end_later ended bytes from (t ∷ ts) last h =
    let w = within_along bytes from ended (lexed.Token t) h.0 in omega (arith, w.0, w.1, end_later ended bytes t.end ts last h.1)

-- each token starts before the end of the last one
pub start_before : (ended : Bool) (bytes : List ℕ) (from : ℕ) (ts : List Token) (last : Lexed) (size i : ℕ) → HasTokens ended bytes from ts last → i < length ts
    → start_of size (drop i ts) ≤ last_end from ts
start_before ended bytes from [] last size i h lt = absurd (omega (arith, lt))
start_before ended bytes from (t ∷ ts) last size zero h lt =
    let w = within_along bytes from ended (lexed.Token t) h.0 in omega (arith, w.1, end_later ended bytes t.end ts last h.1)
start_before ended bytes from (t ∷ ts) last size (suc i) h lt = start_before ended bytes t.end ts last size i h.1 (omega (arith, lt))

-- a byte that continues no token isn't before the place from which tokens are found
pub bad_behind : (ended : Bool) (bytes : List ℕ) (from : ℕ) (ts : List Token) (bad : ℕ) → HasTokens ended bytes from ts (lexed.BadToken bad) → from ≤ bad
bad_behind ended bytes from [] bad h = (within_along bytes from ended (lexed.BadToken bad) h.0).0
bad_behind ended bytes from (t ∷ ts) bad h =
    let w = within_along bytes from ended (lexed.Token t) h.0 in omega (arith, w.0, w.1, bad_behind ended bytes t.end ts bad h.1)

-- in bytes that may go on it is one of them
pub bad_inside : (bytes : List ℕ) (from : ℕ) (ts : List Token) (bad : ℕ) → HasTokens false bytes from ts (lexed.BadToken bad) → bad < length bytes
bad_inside bytes from [] bad h = (within_along bytes from false (lexed.BadToken bad) h.0).2 refl
bad_inside bytes from (t ∷ ts) bad h = bad_inside bytes t.end ts bad h.1

-- the token at a place where others follow
pub get_append : (ts us : List Token) (i : ℕ) → i < length ts → slice_get (ts ++ us) i ≡ slice_get ts i
get_append [] us i lt = absurd (omega (arith, lt))
get_append (t ∷ ts) us zero lt = refl
get_append (t ∷ ts) us (suc i) lt = get_append ts us i (omega (arith, lt))

-- where a token starts, where others follow
pub start_append : (size size' : ℕ) (ts us : List Token) (i : ℕ) → i < length ts → start_of size' (drop i (ts ++ us)) ≡ start_of size (drop i ts)
start_append size size' [] us i lt = absurd (omega (arith, lt))
start_append size size' (t ∷ ts) us zero lt = refl
start_append size size' (t ∷ ts) us (suc i) lt = start_append size size' ts us i (omega (arith, lt))

-- tokens begin where the first of them does
pub begin_append : (tail tail' : Tail) (ts us : List Token) → 0 < length ts → begin_of tail' (ts ++ us) ≡ begin_of tail ts
begin_append tail tail' [] us some = absurd (omega (arith, some))
begin_append tail tail' (t ∷ ts) us some = refl

module _ (front more : List ℕ) where
  slice_same : (a b : ℕ) → a ≤ b → b ≤ length front → slice_range (front ++ more) a b ≡ slice_range front a b
  slice_same a b le within =
      ap (take (b - a)) (drop-append-le a front more (omega (arith, le, within)))
      ∙ take-append-le (b - a) (drop a front) more (omega (arith, within, length-drop a front))

  -- a token says the same
  pub lexeme_same : (t : Token) → next_of front t.start false ≡ lexed.Token t → lexeme (front ++ more) t ≡ lexeme front t
  lexeme_same t h =
      let w = within_along front t.start false (lexed.Token t) h in
      ap (lexeme_of t.kind) (slice_same t.start t.end (omega (arith, w.1)) w.2)

  pub lexemes_same : (ts : List Token) → Shown front ts → lexemes (front ++ more) ts ≡ lexemes front ts
  lexemes_same [] h = refl
  lexemes_same (t ∷ ts) h =
      ap (λ (x : Lexeme). x ∷ lexemes (front ++ more) ts) (lexeme_same t h.0) ∙ ap (λ (l : List Lexeme). lexeme front t ∷ l) (lexemes_same ts h.1)

  -- tokens say the same where others follow
  pub lexemes_more : (ts us : List Token) → Shown front ts → lexemes (front ++ more) (ts ++ us) ≡ lexemes front ts ++ lexemes (front ++ more) us
  lexemes_more ts us h = map-append (lexeme (front ++ more)) ts us ∙ ap (λ (l : List Lexeme). l ++ lexemes (front ++ more) us) (lexemes_same ts h)

  -- the same bytes show a token
  pub shown_same : (t : Token) → next_of front t.start false ≡ lexed.Token t → shown_end (front ++ more) t ≡ shown_end front t
  shown_same t h = go (is_token (next_of (take t.end front) t.start false)) refl
    where
      within : t.end ≤ length front
      within = (within_along front t.start false (lexed.Token t) h).2

      moved : is_token (next_of (take t.end (front ++ more)) t.start false) ≡ is_token (next_of (take t.end front) t.start false)
      moved = ap (λ (l : List ℕ). is_token (next_of l t.start false)) (take-append-le t.end front more within)

      inside : is_token (next_of (take t.end front) t.start false) ≡ false → t.end + 1 ≤ length front
      inside e = elim (leb_tells (t.end + 1) (length front)) [
        | inl k ↦ omega (arith, k.1)
        | inr k ↦ (let all : take t.end front ≡ front = take_all t.end front (omega (arith, k.1)) in
            let clash : true ≡ false = sym (ap is_token (ap (λ (l : List ℕ). next_of l t.start false) all ∙ h)) ∙ e in cc)
      ]

      go : (b : Bool) → is_token (next_of (take t.end front) t.start false) ≡ b → shown_end (front ++ more) t ≡ shown_end front t
      go true e = by_end (front ++ more) t true (moved ∙ e) ∙ sym (by_end front t true e)
      go false e = omega (arith, by_end (front ++ more) t false (moved ∙ e), by_end front t false e, inside e, length-append front more)

  -- a token stays
  stays : (ended : Bool) (from : ℕ) (t : Token) → next_of front from false ≡ lexed.Token t → next_of (front ++ more) from ended ≡ lexed.Token t
  stays ended from t h = stable front more from ended (λ e. let bad = sym h ∙ e in cc) ∙ h

  -- the tokens of the first bytes are the first of all
  pub go_on : (ended : Bool) (from : ℕ) (ts all : List Token) (last last' : Lexed) → HasTokens false front from ts last → HasTokens ended (front ++ more) from all last'
      → (us : List Token) × (all ≡ ts ++ us) × HasTokens ended (front ++ more) (last_end from ts) us last'
  go_on ended from [] all last last' h k = (all, refl, k)
  go_on ended from (t ∷ ts) [] last last' h k = let clash : true ≡ false = ap is_token (sym (stays ended from t h.0) ∙ k.0) ∙ k.1 in cc
  go_on ended from (t ∷ ts) (u ∷ all) last last' h k =
      let first : t ≡ u = same_token t u (sym (stays ended from t h.0) ∙ k.0) in
      let rest = go_on ended t.end ts all last last' h.1 (subst (λ (x : Token). HasTokens ended (front ++ more) x.end all last') (sym first) k.1) in
      (rest.0, ap (λ (x : Token). x ∷ all) (sym first) ∙ ap (λ (l : List Token). t ∷ l) rest.1, rest.2)

  -- where they want no more, they are all
  pub go_no_further : (ended : Bool) (from : ℕ) (ts : List Token) (last : Lexed) → HasTokens false front from ts last → (last ≡ lexed.More → ⊥) → HasTokens ended (front ++ more) from ts last
  go_no_further ended from [] last h n = (stable front more from ended (λ e. n (sym h.0 ∙ e)) ∙ h.0, h.1)
  go_no_further ended from (t ∷ ts) last h n = (stays ended from t h.0, go_no_further ended t.end ts last h.1 n)

  -- the same bytes show a token where others follow
  pub known_some : (tail tail' : Tail) (ts us : List Token) (i : ℕ) → i < length ts → Shown front ts → known_end (front ++ more) tail' (ts ++ us) i ≡ known_end front tail ts i
  known_some tail tail' [] us i lt s = absurd (omega (arith, lt))
  known_some tail tail' (t ∷ ts) us zero lt s = shown_same t s.0
  known_some tail tail' (t ∷ ts) us (suc i) lt s = known_some tail tail' ts us i (omega (arith, lt)) s.1

  -- and what is behind the tokens, where that is a byte that continues none
  pub known_same : (tail : Tail) (bad : ℕ) → tail.last ≡ lexed.BadToken bad → bad < length front → (ts : List Token) (i : ℕ) → Shown front ts
      → known_end (front ++ more) tail ts i ≡ known_end front tail ts i
  known_same tail bad e lt [] i s =
      let same : tail_end (front ++ more) (lexed.BadToken bad) ≡ tail_end front (lexed.BadToken bad) = omega (arith, lt, length-append front more) in
      ap (tail_end (front ++ more)) e ∙ same ∙ sym (ap (tail_end front) e)
  known_same tail bad e lt (t ∷ ts) zero s = shown_same t s.0
  known_same tail bad e lt (t ∷ ts) (suc i) s = known_same tail bad e lt ts i s.1
