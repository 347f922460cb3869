-- What more bytes show behind the tokens of some first bytes is shown behind those bytes.
use Rattle.std.proofs.Common.{◌≡◌, ◌≤◌, ◌<◌, ◌++◌, ℕ, zero, suc, List, [], ◌∷◌, Bool, true, false, refl, subst, ◌∙◌, take, drop, length, arith, length-append}
use Rattle.std.specs.Prelude.{slice_get}
use Rattle.std.specs.Option.{option_map_or}
use Rattle.bidel_lex.specs.declared.tokens.Token.{Token}
use Rattle.bidel_lex.specs.declared.tokens.Lexed.{Lexed}
use Rattle.bidel_lex.specs.declared.tokens.Lexed.TheVariants as lexed
use Rattle.bidel_lex.specs.Laws.{IsBehind}
use Rattle.bidel_lex.specs.Next.{next_of}
use Rattle.bidel_lex.specs.Tokens.{HasTokens, is_token}
use Rattle.bidel_lex.proofs.BehindLaws.{ends_behind}
use Rattle.bidel_lex.proofs.WithinLaws.{within_along}
use Rattle.bidel_script.specs.declared.tokens.Tail.{Tail}
use Rattle.bidel_script.specs.Tails.{shown_end, tail_end, known_end, last_end}
use Rattle.bidel_script.proofs.KnownLemmas.{by_end}
use Rattle.bidel_script.proofs.CutTokens.{Shown}

-- ---- how many bytes show a token, and where it ends

-- the end of the token at a place
abbrev pub end_at : List Token → ℕ → ℕ
end_at tokens i = option_map_or (λ (token : Token). token.end) (slice_get tokens i) 0

shown_least : (bytes : List ℕ) (token : Token) (n : ℕ) → n ≤ token.end → token.end ≤ length bytes → n ≤ shown_end bytes token
shown_least bytes token n le within = go (is_token (next_of (take token.end bytes) token.start false)) refl
  where
    go : (b : Bool) → is_token (next_of (take token.end bytes) token.start false) ≡ b → n ≤ shown_end bytes token
    go true e = omega (arith, by_end bytes token true e, le)
    go false e = omega (arith, by_end bytes token false e, le, within)

shown_most : (bytes : List ℕ) (token : Token) → token.end ≤ length bytes → shown_end bytes token ≤ length bytes
shown_most bytes token within = go (is_token (next_of (take token.end bytes) token.start false)) refl
  where
    go : (b : Bool) → is_token (next_of (take token.end bytes) token.start false) ≡ b → shown_end bytes token ≤ length bytes
    go true e = omega (arith, by_end bytes token true e, within)
    go false e = omega (arith, by_end bytes token false e)

tail_least : (bytes : List ℕ) (last : Lexed) (n : ℕ) → n ≤ length bytes → ((bad : ℕ) → last ≡ lexed.BadToken bad → n ≤ bad) → n ≤ tail_end bytes last
tail_least bytes (lexed.Token token) n within h = within
tail_least bytes lexed.More n within h = within
tail_least bytes lexed.End n within h = within
tail_least bytes (lexed.BadToken bad) n within h = omega (arith, within, h bad refl)

tail_most : (bytes : List ℕ) (last : Lexed) → tail_end bytes last ≤ length bytes
tail_most bytes (lexed.Token token) = omega arith
tail_most bytes lexed.More = omega arith
tail_most bytes lexed.End = omega arith
tail_most bytes (lexed.BadToken bad) = omega arith

-- no more bytes than all show a token
pub known_most : (bytes : List ℕ) (tail : Tail) (tokens : List Token) (i : ℕ) → Shown bytes tokens → known_end bytes tail tokens i ≤ length bytes
known_most bytes tail [] i h = tail_most bytes tail.last
known_most bytes tail (token ∷ tokens) zero h = shown_most bytes token (within_along bytes token.start false (lexed.Token token) h.0).2
known_most bytes tail (token ∷ tokens) (suc i) h = known_most bytes tail tokens i h.1

-- and it ends within them
pub ends_most : (bytes : List ℕ) (tokens : List Token) (i : ℕ) → Shown bytes tokens → end_at tokens i ≤ length bytes
ends_most bytes [] i h = omega arith
ends_most bytes (token ∷ tokens) zero h = (within_along bytes token.start false (lexed.Token token) h.0).2
ends_most bytes (token ∷ tokens) (suc i) h = ends_most bytes tokens i h.1

-- tokens that are found from a place on are shown behind it
known_later : (ended : Bool) (bytes : List ℕ) (tail : Tail) (from n : ℕ) (tokens : List Token) (i : ℕ) → HasTokens ended bytes from tokens tail.last → n ≤ from → n ≤ length bytes
    → n ≤ known_end bytes tail tokens i
known_later ended bytes tail from n [] i h le within =
    tail_least bytes tail.last n within (λ bad e. omega (arith, le, (within_along bytes from ended (lexed.BadToken bad) (h.0 ∙ e)).0))
known_later ended bytes tail from n (token ∷ tokens) zero h le within =
    let w = within_along bytes from ended (lexed.Token token) h.0 in shown_least bytes token n (omega (arith, le, w.0, w.1)) w.2
known_later ended bytes tail from n (token ∷ tokens) (suc i) h le within =
    let w = within_along bytes from ended (lexed.Token token) h.0 in known_later ended bytes tail token.end n tokens i h.1 (omega (arith, le, w.0, w.1)) within

-- and end behind it
ends_later : (ended : Bool) (bytes : List ℕ) (from n : ℕ) (tokens : List Token) (last : Lexed) (i : ℕ) → HasTokens ended bytes from tokens last → n ≤ from → i < length tokens → n ≤ end_at tokens i
ends_later ended bytes from n [] last i h le lt = absurd (omega (arith, lt))
ends_later ended bytes from n (token ∷ tokens) last zero h le lt = let w = within_along bytes from ended (lexed.Token token) h.0 in omega (arith, le, w.0, w.1)
ends_later ended bytes from n (token ∷ tokens) last (suc i) h le lt =
    let w = within_along bytes from ended (lexed.Token token) h.0 in ends_later ended bytes token.end n tokens last i h.1 (omega (arith, le, w.0, w.1)) (omega (arith, lt))

-- so are those that come behind first bytes that want more
module _ (front more : List ℕ) (ended : Bool) (from : ℕ) (le : from ≤ length front) (wants : next_of front from false ≡ lexed.More) where
  ends_there : (answer : Lexed) → next_of (front ++ more) from ended ≡ answer → IsBehind (length front) answer
  ends_there answer e = subst (IsBehind (length front)) e (ends_behind front more from ended le wants)

  pub known_cut : (tail : Tail) (tokens : List Token) (i : ℕ) → HasTokens ended (front ++ more) from tokens tail.last → length front ≤ known_end (front ++ more) tail tokens i
  known_cut tail [] i h = tail_least (front ++ more) tail.last (length front) (omega (arith, length-append front more)) (λ bad e. ends_there (lexed.BadToken bad) (h.0 ∙ e))
  known_cut tail (token ∷ tokens) zero h =
      shown_least (front ++ more) token (length front) (ends_there (lexed.Token token) h.0) (within_along (front ++ more) from ended (lexed.Token token) h.0).2
  known_cut tail (token ∷ tokens) (suc i) h =
      known_later ended (front ++ more) tail token.end (length front) tokens i h.1 (ends_there (lexed.Token token) h.0) (omega (arith, length-append front more))

  pub ends_cut : (tokens : List Token) (last : Lexed) (i : ℕ) → HasTokens ended (front ++ more) from tokens last → i < length tokens → length front ≤ end_at tokens i
  ends_cut [] last i h lt = absurd (omega (arith, lt))
  ends_cut (token ∷ tokens) last zero h lt = ends_there (lexed.Token token) h.0
  ends_cut (token ∷ tokens) last (suc i) h lt =
      ends_later ended (front ++ more) token.end (length front) tokens last i h.1 (ends_there (lexed.Token token) h.0) (omega (arith, lt))

-- ---- behind other tokens

pub known_past : (bytes : List ℕ) (tail : Tail) (n : ℕ) (ts us : List Token) (i : ℕ) → length ts ≤ i → ((j : ℕ) → n ≤ known_end bytes tail us j) → n ≤ known_end bytes tail (ts ++ us) i
known_past bytes tail n [] us i le h = h i
known_past bytes tail n (t ∷ ts) us zero le h = absurd (omega (arith, le))
known_past bytes tail n (t ∷ ts) us (suc i) le h = known_past bytes tail n ts us i (omega (arith, le)) h

pub ends_past : (n : ℕ) (ts us : List Token) (i : ℕ) → length ts ≤ i → i < length (ts ++ us) → ((j : ℕ) → j < length us → n ≤ end_at us j) → n ≤ end_at (ts ++ us) i
ends_past n [] us i le lt h = h i lt
ends_past n (t ∷ ts) us zero le lt h = absurd (omega (arith, le))
ends_past n (t ∷ ts) us (suc i) le lt h = ends_past n ts us i (omega (arith, le)) (omega (arith, lt)) h

-- ---- tokens that are left

-- the end of the last token lies within the bytes
pub end_within : (ended : Bool) (bytes : List ℕ) (from : ℕ) (ts : List Token) (last : Lexed) → from ≤ length bytes → HasTokens ended bytes from ts last → last_end from ts ≤ length bytes
end_within ended bytes from [] last le h = le
end_within ended bytes from (t ∷ ts) last le h = end_within ended bytes t.end ts last (within_along bytes from ended (lexed.Token t) h.0).2 h.1

-- and is that of both lists one after the other
pub last_end-append : (from : ℕ) (ts us : List Token) → last_end from (ts ++ us) ≡ last_end (last_end from ts) us
last_end-append from [] us = refl
last_end-append from (t ∷ ts) us = last_end-append t.end ts us

-- tokens behind others are found from a place on, with the same end
pub has_drop : (ended : Bool) (bytes : List ℕ) (from : ℕ) (ts : List Token) (last : Lexed) (n : ℕ) → HasTokens ended bytes from ts last
    → (place : ℕ) × HasTokens ended bytes place (drop n ts) last × (last_end place (drop n ts) ≡ last_end from ts)
has_drop ended bytes from ts last zero h = (from, h, refl)
has_drop ended bytes from [] last (suc n) h = (from, h, refl)
has_drop ended bytes from (t ∷ ts) last (suc n) h = has_drop ended bytes t.end ts last n h.1
