-- White space and comments before a byte that continues no token stay as more bytes come.
use Rattle.std.proofs.Common.{◌≡◌, ◌+◌, ◌≤◌, ◌<◌, ◌==◌, ◌++◌, ◌⊎◌, ℕ, zero, suc, List, [], ◌∷◌, Bool, true, false, inl, inr, refl, sym, ap, subst, ◌∙◌, cond, drop, length, arith, append_assoc, append-nil, length-append}
use Rattle.std.specs.Prelude.{◌&&◌, not}
use Rattle.std.specs.List.{AllPass}
use Rattle.std.proofs.lemmas.List.{drop-append-le}
use Rattle.std.proofs.lemmas.Bool.Decides.{eqb_tells}
use Rattle.bidel_lex.specs.declared.tokens.Token.{Token}
use Rattle.bidel_lex.specs.declared.tokens.TokenKind.TheVariants as kind
use Rattle.bidel_lex.specs.declared.tokens.Lexed.{Lexed}
use Rattle.bidel_lex.specs.declared.tokens.Lexed.TheVariants as lexed
use Rattle.bidel_lex.specs.Blanks.{Blanks, EndBlanks, is_inner, nothing, space, comment, finished, last_comment}
use Rattle.bidel_lex.specs.Classes.{is_space}
use Rattle.bidel_lex.specs.Next.{next_of}
use Rattle.bidel_lex.specs.Tokens.{HasTokens}
use Rattle.bidel_lex.proofs.ReadBackLaws.{token_exactly, end_exactly}
use Rattle.bidel_lex.proofs.StableLaws.{stable}
use Rattle.bidel_script.specs.Tails.{last_end, first_byte}
use Rattle.bidel_script.proofs.CutTokens.{bad_behind, bad_inside}

-- ---- one byte

pub comment_passed : (at b : ℕ) (bs : List ℕ) → first_byte true at (b ∷ bs) ≡ first_byte (not (b == 10)) (at + 1) bs
unfolding first_byte
comment_passed at b bs = refl

pub minuses_passed : (at : ℕ) (cs : List ℕ) → first_byte false at (45 ∷ 45 ∷ cs) ≡ first_byte true (at + 1 + 1) cs
unfolding first_byte
minuses_passed at cs = refl

minus_stops : (at c : ℕ) (cs : List ℕ) → (c == 45) ≡ false → first_byte false at (45 ∷ c ∷ cs) ≡ at
unfolding first_byte
minus_stops at c cs e = ap (λ (x : Bool). cond x (first_byte true (at + 1) (c ∷ cs)) at) e

pub other_passed : (at b : ℕ) (bs : List ℕ) → (b == 45) ≡ false → first_byte false at (b ∷ bs) ≡ cond (is_space b) (first_byte false (at + 1) bs) at
unfolding first_byte
other_passed at b [] e = refl
other_passed at b (c ∷ cs) e =
    ap (λ (x : Bool). cond (x && (c == 45)) (first_byte true (at + 1) (c ∷ cs)) (cond (is_space b) (first_byte false (at + 1) (c ∷ cs)) at)) e

-- ---- comments

-- a comment ends with its line, and reading goes on behind it, whatever bytes come
record Closed (at : ℕ) (xs : List ℕ) : Type 0 where
  inner : List ℕ
  behind : List ℕ
  split : xs ≡ inner ++ 10 ∷ behind
  pass : AllPass is_inner inner
  place : ℕ
  goes : (more : List ℕ) → first_byte true at (xs ++ more) ≡ first_byte false place (behind ++ more)
  stands : first_byte true at xs ≡ first_byte false place behind

all_none : AllPass is_inner []
all_none k d lt = absurd (omega (arith, lt))

all_more : (b : ℕ) (bs : List ℕ) → is_inner b ≡ true → AllPass is_inner bs → AllPass is_inner (b ∷ bs)
all_more b bs h all zero d lt = h
all_more b bs h all (suc k) d lt = all k d (omega (arith, lt))

comment_end : (at : ℕ) (xs : List ℕ) → AllPass is_inner xs ⊎ Closed at xs
comment_end at [] = inl all_none
comment_end at (b ∷ bs) = elim (eqb_tells b 10) [
  | inl k ↦ inr (record {
    inner = [];
    behind = bs;
    split = ap (λ (x : ℕ). x ∷ bs) k.1;
    pass = all_none;
    place = at + 1;
    goes = λ more. comment_passed at b (bs ++ more) ∙ ap (λ (x : Bool). first_byte (not x) (at + 1) (bs ++ more)) k.0;
    stands = comment_passed at b bs ∙ ap (λ (x : Bool). first_byte (not x) (at + 1) bs) k.0;
  })
  | inr k ↦ elim (comment_end (at + 1) bs) [
    | inl all ↦ inl (all_more b bs (ap not k.0) all)
    | inr s ↦ inr (record {
      inner = b ∷ s.inner;
      behind = s.behind;
      split = ap (λ (l : List ℕ). b ∷ l) s.split;
      pass = all_more b s.inner (ap not k.0) s.pass;
      place = s.place;
      goes = λ more. comment_passed at b (bs ++ more) ∙ ap (λ (x : Bool). first_byte (not x) (at + 1) (bs ++ more)) k.0 ∙ s.goes more;
      stands = comment_passed at b bs ∙ ap (λ (x : Bool). first_byte (not x) (at + 1) bs) k.0 ∙ s.stands;
    })
  ]
]

-- ---- all bytes

-- the last byte is a minus, behind white space and comments
record LastMinus (xs : List ℕ) : Type 0 where
  gap : List ℕ
  blank : Blanks gap
  split : xs ≡ gap ++ 45 ∷ []

-- the first byte of what follows stays as more come, or nothing follows, or a minus that may begin a comment
data Scan (at : ℕ) (xs : List ℕ) : Type 0 where
  same : ((more : List ℕ) → first_byte false at (xs ++ more) ≡ first_byte false at xs) → Scan at xs
  blank : EndBlanks xs → Scan at xs
  minus : LastMinus xs → Scan at xs

space_scan : (at b : ℕ) (bs : List ℕ) → (b == 45) ≡ false → is_space b ≡ true → Scan (at + 1) bs → Scan at (b ∷ bs)
space_scan at b bs n e (same h) = same (λ more. passed (bs ++ more) ∙ h more ∙ sym (passed bs))
  where
    passed : (l : List ℕ) → first_byte false at (b ∷ l) ≡ first_byte false (at + 1) l
    passed l = other_passed at b l n ∙ ap (λ (x : Bool). cond x (first_byte false (at + 1) l) at) e
space_scan at b bs n e (blank (finished g)) = blank (finished (space b bs e g))
space_scan at b bs n e (blank (last_comment gap inside g all split)) = blank (last_comment (b ∷ gap) inside (space b gap e g) all (ap (λ (l : List ℕ). b ∷ l) split))
space_scan at b bs n e (minus m) = minus (record { gap = b ∷ m.gap; blank = space b m.gap e m.blank; split = ap (λ (l : List ℕ). b ∷ l) m.split })

comment_scan : (at : ℕ) (cs : List ℕ) (k : Closed (at + 1 + 1) cs) → Scan k.place k.behind → Scan at (45 ∷ 45 ∷ cs)
comment_scan at cs k (same h) = same (λ more. minuses_passed at (cs ++ more) ∙ k.goes more ∙ h more ∙ sym (minuses_passed at cs ∙ k.stands))
comment_scan at cs k (blank (finished g)) = blank (finished (subst Blanks (sym (ap (λ (l : List ℕ). 45 ∷ 45 ∷ l) k.split)) (comment k.inner k.behind k.pass g)))
comment_scan at cs k (blank (last_comment gap inside g all split)) =
    blank (last_comment (45 ∷ 45 ∷ (k.inner ++ 10 ∷ gap)) inside (comment k.inner gap k.pass g) all
    (ap (λ (l : List ℕ). 45 ∷ 45 ∷ l) (k.split ∙ ap (λ (l : List ℕ). k.inner ++ 10 ∷ l) split ∙ sym (append_assoc k.inner (10 ∷ gap) (45 ∷ 45 ∷ inside)))))
comment_scan at cs k (minus m) =
    minus (record {
      gap = 45 ∷ 45 ∷ (k.inner ++ 10 ∷ m.gap);
      blank = comment k.inner m.gap k.pass m.blank;
      split = ap (λ (l : List ℕ). 45 ∷ 45 ∷ l) (k.split ∙ ap (λ (l : List ℕ). k.inner ++ 10 ∷ l) m.split ∙ sym (append_assoc k.inner (10 ∷ m.gap) (45 ∷ [])));
    })

-- reading fewer than so many bytes
abbrev Scans : ℕ → Type 0
Scans fuel = (at : ℕ) (xs : List ℕ) → length xs < fuel → Scan at xs

minus_scan : (fuel at : ℕ) (cs : List ℕ) → Scans fuel → length cs < fuel → Scan at (45 ∷ cs)
minus_scan fuel at [] go lt = minus (record { gap = []; blank = nothing; split = refl })
minus_scan fuel at (c ∷ cs) go lt = elim (eqb_tells c 45) [
  | inl k ↦ subst (λ (x : ℕ). Scan at (45 ∷ x ∷ cs)) (sym k.1) (elim (comment_end (at + 1 + 1) cs) [
    | inl all ↦ blank (last_comment [] cs nothing all refl)
    | inr s ↦ comment_scan at cs s (go s.place s.behind (omega (arith, lt, ap length s.split, length-append s.inner (10 ∷ s.behind))))
  ])
  | inr k ↦ same (λ more. minus_stops at c (cs ++ more) k.0 ∙ sym (minus_stops at c cs k.0))
]

other_scan : (fuel at b : ℕ) (bs : List ℕ) → Scans fuel → length bs < fuel → (b == 45) ≡ false → (s : Bool) → is_space b ≡ s → Scan at (b ∷ bs)
other_scan fuel at b bs go lt n true e = space_scan at b bs n e (go (at + 1) bs lt)
other_scan fuel at b bs go lt n false e = same (λ more. stops (bs ++ more) ∙ sym (stops bs))
  where
    stops : (l : List ℕ) → first_byte false at (b ∷ l) ≡ at
    stops l = other_passed at b l n ∙ ap (λ (x : Bool). cond x (first_byte false (at + 1) l) at) e

scan : (fuel : ℕ) → Scans fuel
scan zero at xs lt = absurd (omega (arith, lt))
scan (suc fuel) at [] lt = blank (finished nothing)
scan (suc fuel) at (b ∷ bs) lt = elim (eqb_tells b 45) [
  | inl k ↦ subst (λ (x : ℕ). Scan at (x ∷ bs)) (sym k.1) (minus_scan fuel at bs (λ a l h. scan fuel a l h) (omega (arith, lt)))
  | inr k ↦ other_scan fuel at b bs (λ a l h. scan fuel a l h) (omega (arith, lt)) k.0 (is_space b) refl
]

-- what is found behind some tokens
pub last_found : (ended : Bool) (bytes : List ℕ) (from : ℕ) (ts : List Token) (last : Lexed) → HasTokens ended bytes from ts last → next_of bytes (last_end from ts) ended ≡ last
last_found ended bytes from [] last h = h.0
last_found ended bytes from (t ∷ ts) last h = last_found ended bytes t.end ts last h.1

-- where a byte continues no token, what is behind the tokens begins where it did
pub begun_same : (front more : List ℕ) (ts : List Token) (bad : ℕ) → HasTokens false front 0 ts (lexed.BadToken bad)
    → first_byte false (last_end 0 ts) (drop (last_end 0 ts) (front ++ more)) ≡ first_byte false (last_end 0 ts) (drop (last_end 0 ts) front)
begun_same front more ts bad h = by_scan (scan (length (drop from front) + 1) from (drop from front) (omega arith))
  where
    from : ℕ
    from = last_end 0 ts

    here : next_of front from false ≡ lexed.BadToken bad
    here = last_found false front 0 ts (lexed.BadToken bad) h

    within : from ≤ length front
    within = omega (arith, bad_behind false front from [] bad (here, refl), bad_inside front 0 ts bad h)

    at_end : next_of front from true ≡ lexed.BadToken bad
    at_end =
        ap (λ (l : List ℕ). next_of l from true) (sym (append-nil front)) ∙ stable front [] from true (λ m. let clash : lexed.BadToken bad ≡ lexed.More = sym here ∙ m in cc) ∙ here

    by_scan : Scan from (drop from front) → first_byte false from (drop from (front ++ more)) ≡ first_byte false from (drop from front)
    by_scan (same s) = ap (first_byte false from) (drop-append-le from front more within) ∙ s more
    by_scan (blank s) = let clash : lexed.End ≡ lexed.BadToken bad = sym ((end_exactly front from true).1 (refl, s)) ∙ at_end in cc
    by_scan (minus m) =
        let token : Token = record { kind = kind.Symbol; start = from + length m.gap; end = from + length m.gap + 1 } in
        let there : next_of front from true ≡ lexed.Token token =
        (token_exactly front from true token).1 (record {
          gap = m.gap;
          text = 45 ∷ [];
          rest = [];
          split = m.split;
          blank = m.blank;
          spells = refl;
          follows = refl;
          start = refl;
          end = refl;
        }) in
        let clash : lexed.Token token ≡ lexed.BadToken bad = sym there ∙ at_end in cc
