-- Entries that stay where they pass a test, and pairs that are new and pass it.
use Rattle.std.proofs.Common.{◌≡◌, ℕ, suc, ◌+◌, ◌<◌, ◌≤◌, ◌==◌, ◌⊎◌, List, [], ◌∷◌, ◌++◌, length, filter, count_by, Bool, true, false, ◌&&◌, not, IsSome, refl, ap, sym, ◌∙◌, subst, arith}
use Rattle.std.proofs.lemmas.Bool.{and_parts, eqb-true, eq-eqb}
use mathlib.Core.Logic.{inl, inr}
use Rattle.row_store.specs.Rows.{Rows, row_of}
use Rattle.id_memory.specs.Pairs.{Pairs, RiseFrom as PairsRise, IsOneToOne, pair_of, has_pair}
use Rattle.op_law.specs.Sound.{PairsSound}
use Rattle.op_law.proofs.SoundLaws.{pairs_more}
use Rattle.row_parts.specs.RowCells.{by_test}
use Rattle.pair_rows.specs.inner.PairLemmas.{often, often_numbered, often_filter, often_append, never, count_filter, count_append, has_not, filter_rises, numbered_rises, append_rises, filter_pairs_sound, append_pairs_sound, append_pair, filter_pair, numbered_pair}
use Rattle.pair_rows.specs.Shown.{AreThere, has, pairs_with, all_pairs, numbered}
use Rattle.outer_law.proofs.CountingLaws.{AllPass, filter_pass, append_pass, count_kept, has_some}

-- both identifiers are below
abbrev pub HalvesBelow : ℕ → List (ℕ × ℕ) → Type 0
HalvesBelow n [] = Unit {0}
HalvesBelow n (x ∷ xs) = ((x.0 < n) × (x.1 < n)) × HalvesBelow n xs

-- numbered pairs are sound, from 1 on
pub numbered_halves : (n k : ℕ) (xs : List (ℕ × ℕ)) → n ≤ k → HalvesBelow n xs → PairsSound (k + length xs) (numbered k xs)
numbered_halves n k [] h below = tt
numbered_halves n k (x ∷ xs) h below =
    let rest = numbered_halves n (k + 1) xs (omega (arith, h)) below.1 in
    let under = below.0.0 in
    let other_under = below.0.1 in
    let same : (k + 1) + length xs ≡ k + suc (length xs) = omega arith in
    (((omega (arith, under, h), omega arith), omega (arith, under, h), omega (arith, other_under, h)), subst (λ (i : ℕ). PairsSound i (numbered (k + 1) xs)) same rest)

-- a pair of rows that are there is among all pairs
with_one : (a b : ℕ) (t : Rows) → IsSome (row_of t b) → 1 ≤ often a b (pairs_with a t)
with_one a b [] some = absurd (cc)
with_one a b (r ∷ rs) some =
    let own = eq-eqb a a refl in
    by_test (r.0 == b)
    (λ q. rw (own, q) (omega arith))
    (λ q. let later : IsSome (row_of rs b) = rw q at some in rw (own, q) (with_one a b rs later))

-- the same in order of both
pub all_one : (a b : ℕ) (s t : Rows) → IsSome (row_of s a) → IsSome (row_of t b) → 1 ≤ often a b (all_pairs s t)
all_one a b [] t some other = absurd (cc)
all_one a b (r ∷ rs) t some other =
    let both = often_append a b (pairs_with r.0 t) (all_pairs rs t) in
    by_test (r.0 == a)
    (λ q.
    let same = eqb-true r.0 a q in
    let here : 1 ≤ often a b (pairs_with r.0 t) = subst (λ (i : ℕ). 1 ≤ often a b (pairs_with i t)) (sym same) (with_one a b t other) in
    omega (arith, both, here))
    (λ q. let later : IsSome (row_of rs a) = rw q at some in let rest = all_one a b rs t later other in omega (arith, both, rest))

-- a pair that passes is not filtered out
often_kept : (test : ℕ × ℕ → Bool) (a b : ℕ) (xs : List (ℕ × ℕ)) → test (a, b) ≡ true → often a b (filter test xs) ≡ often a b xs
often_kept test a b [] h = refl
often_kept test a b (x ∷ xs) h =
    let rest = often_kept test a b xs h in
    by_test (x.0 == a && x.1 == b)
    (λ q.
    let both = and_parts (x.0 == a) (x.1 == b) q in
    let passes : test x ≡ true = ap (λ (i : ℕ). test (i, x.1)) (eqb-true x.0 a both.0) ∙ ap (λ (i : ℕ). test (a, i)) (eqb-true x.1 b both.1) ∙ h in
    rw (passes, q) (ap (λ (k : ℕ). 1 + k) rest))
    (λ q. by_test (test x) (λ p. rw (p, q) rest) (λ p. rw (p, q) rest))

module _ (is : ℕ → ℕ → Bool) (m : Pairs) (xs : List (ℕ × ℕ)) where
  -- the pairs that pass and are not in the memory
  abbrev pub fresh : List (ℕ × ℕ)
  fresh = filter (λ x. is x.0 x.1 && not (has m x.0 x.1)) xs

  -- the entries that pass, and those of fresh pairs
  abbrev pub renewed : ℕ → Pairs
  renewed n = filter (λ e. is e.1 e.2) m ++ numbered n fresh

  -- each passes
  numbered_pass : (n : ℕ) (ys : List (ℕ × ℕ)) → AllPass is (numbered n (filter (λ x. is x.0 x.1 && not (has m x.0 x.1)) ys))
  numbered_pass n [] = tt
  numbered_pass n (y ∷ ys) =
      by_test (is y.0 y.1 && not (has m y.0 y.1))
      (λ q. let both = and_parts (is y.0 y.1) (not (has m y.0 y.1)) q in rw q (both.0, numbered_pass (n + 1) ys))
      (λ q. rw q (numbered_pass n ys))

  pub renewed_pass : (n : ℕ) → AllPass is (renewed n)
  renewed_pass n = append_pass is (filter (λ e. is e.1 e.2) m) (numbered n fresh) (filter_pass is m) (numbered_pass n xs)

  -- identifiers rise
  pub renewed_rises : (n : ℕ) → PairsRise 0 m → PairsSound n m → PairsRise 0 (renewed n)
  renewed_rises n rise sound =
      append_rises 0 n (filter (λ e. is e.1 e.2) m) (numbered n fresh) (omega arith)
      (filter_rises (λ e. is e.1 e.2) 0 m rise)
      (filter_pairs_sound (λ e. is e.1 e.2) n m sound)
      (numbered_rises n fresh)

  -- a fresh pair is another than one of the memory
  fresh_not_old : (a b : ℕ) (x : ℕ × ℕ) → has m a b ≡ true → (is x.0 x.1 && not (has m x.0 x.1)) ≡ true → (x.0 == a && x.1 == b) ≡ false
  fresh_not_old a b x old new =
      by_test (x.0 == a && x.1 == b)
      (λ e.
      let same = and_parts (x.0 == a) (x.1 == b) e in
      let there : has m x.0 x.1 ≡ true = ap (λ (i : ℕ). has m i x.1) (eqb-true x.0 a same.0) ∙ ap (λ (i : ℕ). has m a i) (eqb-true x.1 b same.1) ∙ old in
      let parts = and_parts (is x.0 x.1) (not (has m x.0 x.1)) new in
      let no : not true ≡ true = subst (λ (b : Bool). not b ≡ true) there parts.1 in
      absurd (cc))
      (λ e. e)

  -- no pair stands twice
  pub renewed_one : (n : ℕ) → IsOneToOne m → ((a b : ℕ) → often a b xs ≤ 1) → IsOneToOne (renewed n)
  renewed_one n one once a b =
      let p = has_pair a b in
      let all = count_append p (filter (λ e. is e.1 e.2) m) (numbered n fresh) in
      let kept = count_filter p (λ e. is e.1 e.2) m in
      let new = often_numbered a b n fresh in
      let fewer = often_filter (λ x. is x.0 x.1 && not (has m x.0 x.1)) a b xs in
      let most = once a b in
      let old = one a b in
      by_test (has m a b)
      (λ e.
      let none = never (λ x. is x.0 x.1 && not (has m x.0 x.1)) a b xs (λ x h. fresh_not_old a b x e h) in
      omega (arith, all, kept, new, none, old))
      (λ e. let none = has_not m a b e in omega (arith, all, kept, new, fewer, most, none))

  -- a pair that passes and may be drawn for is there
  pub renewed_has : (n a b : ℕ) → is a b ≡ true → 1 ≤ often a b xs → 1 ≤ count_by (has_pair a b) (renewed n)
  renewed_has n a b passes listed =
      let p = has_pair a b in
      let all = count_append p (filter (λ e. is e.1 e.2) m) (numbered n fresh) in
      let kept = count_kept is a b m passes in
      let new = often_numbered a b n fresh in
      by_test (has m a b)
      (λ e. let some = has_some m a b e in omega (arith, all, kept, some))
      (λ e.
      let passes_too : (is a b && not (has m a b)) ≡ true = rw (passes, e) refl in
      let stays = often_kept (λ x. is x.0 x.1 && not (has m x.0 x.1)) a b xs passes_too in
      omega (arith, all, new, stays, listed))

  -- the halves of all are there
  there_of : (s t : Rows) (es : Pairs) → ((a b : ℕ) → is a b ≡ true → IsSome (row_of s a) × IsSome (row_of t b)) → AllPass is es → AreThere s t es
  there_of s t [] h all = tt
  there_of s t (e ∷ es) h all = (h e.1 e.2 all.0, there_of s t es h all.1)

  pub renewed_there : (s t : Rows) (n : ℕ) → ((a b : ℕ) → is a b ≡ true → IsSome (row_of s a) × IsSome (row_of t b)) → AreThere s t (renewed n)
  renewed_there s t n h = there_of s t (renewed n) h (renewed_pass n)

  -- bounds
  fresh_below : (n : ℕ) (ys : List (ℕ × ℕ)) → ((a b : ℕ) → is a b ≡ true → (a < n) × (b < n)) → HalvesBelow n (filter (λ x. is x.0 x.1 && not (has m x.0 x.1)) ys)
  fresh_below n [] h = tt
  fresh_below n (y ∷ ys) h =
      by_test (is y.0 y.1 && not (has m y.0 y.1))
      (λ q. let both = and_parts (is y.0 y.1) (not (has m y.0 y.1)) q in rw q (h y.0 y.1 both.0, fresh_below n ys h))
      (λ q. rw q (fresh_below n ys h))

  pub renewed_sound : (n : ℕ) → PairsSound n m → ((a b : ℕ) → is a b ≡ true → (a < n) × (b < n)) → PairsSound (n + length fresh) (renewed n)
  renewed_sound n sound h =
      let next = n + length fresh in
      append_pairs_sound next (filter (λ e. is e.1 e.2) m) (numbered n fresh)
      (pairs_more n next (omega arith) (filter (λ e. is e.1 e.2) m) (filter_pairs_sound (λ e. is e.1 e.2) n m sound))
      (numbered_halves n n fresh (omega arith) (fresh_below n xs h))

  -- an identifier is an old one or was drawn
  pub renewed_id : (n id : ℕ) → IsSome (pair_of (renewed n) id) → IsSome (pair_of m id) ⊎ (n ≤ id)
  renewed_id n id some =
      elim (append_pair (filter (λ e. is e.1 e.2) m) (numbered n fresh) id some) [
        | inl old ↦ inl (filter_pair (λ e. is e.1 e.2) m id old)
        | inr new ↦ inr (numbered_pair n fresh id new)
      ]
