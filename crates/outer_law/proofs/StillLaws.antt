-- An old source keeps its entries.
use Rattle.std.proofs.Common.{◌≡◌, ℕ, zero, suc, ◌≤◌, ◌==◌, List, [], ◌∷◌, ◌++◌, filter, count_by, Bool, true, false, not, ◌&&◌, ◌||◌, IsSome, is_some, append-nil, refl, ap, sym, ◌∙◌, subst, arith}
use Rattle.std.proofs.lemmas.Bool.{and_parts, and_from, false≢true, eqb-true, ne_eqb}
use Rattle.row_store.specs.Rows.{Rows, row_of}
use Rattle.id_memory.specs.Pairs.{Pairs, has_pair}
use Rattle.row_parts.specs.RowCells.{Cell, by_test}
use Rattle.pair_rows.specs.Shown.{Joining, AreThere, row_at, matches, is_shown, has, all_pairs, numbered}
use Rattle.pair_rows.specs.inner.PairLemmas.{AllIn, all_in, count_no}
use Rattle.pair_rows.specs.inner.ShownLaws.{there_cells, still_none}
use Rattle.outer_law.specs.Entries.{with_absent, IsOuter, some_row, is_entry, entries, new_entries}
use Rattle.outer_law.proofs.AbsentLaws.{row_from, not_zero, absent_other, some_found, some_is}
use Rattle.outer_law.proofs.CountingLaws.{has_some, count_two, count_less}

-- an entry that is counted
pub some_entry : (f : ℕ × ℕ × ℕ → Bool) (m es : Pairs) (s t : Rows) (X : Type 0) → AllIn m es → AreThere s t es → 1 ≤ count_by f es
    → ((e : ℕ × ℕ × ℕ) → f e ≡ true → has m e.1 e.2 ≡ true → IsSome (row_of s e.1) → IsSome (row_of t e.2) → X) → X
some_entry f m [] s t X all there some k = absurd (omega (arith, some))
some_entry f m (e ∷ es) s t X all there some k =
    by_test (f e)
    (λ q. k e q all.0 there.0.0 there.0.1)
    (λ q. let same = count_no f e es q in some_entry f m es s t X all.1 there.1 (omega (arith, same, some)) k)

-- a number other than 0
pub above_zero : (a : ℕ) → (a == 0) ≡ false → 1 ≤ a
above_zero zero h = absurd (false≢true (sym h))
above_zero (suc a) h = omega arith

-- what is so at both rows
both_there : (there h k : Bool) → there ≡ true → (there && ((h && not k) || (k && not (k && not h)))) ≡ h
both_there there true true e = rw e refl
both_there there true false e = rw e refl
both_there there false true e = rw e refl
both_there there false false e = rw e refl

module _ (j : Joining) (s t r : Rows) (m : Pairs) (old : IsOuter j s t r m) where
  -- whether a pair is an entry
  abbrev is : ℕ → ℕ → Bool
  is a b = is_entry j s t m s t a b

  -- a pair of rows is a full entry where it was one
  pub full_still : (a b : ℕ) → IsSome (row_of s a) → IsSome (row_of t b) → is_shown j s t m s t a b ≡ has m a b
  full_still a b one other = both_there (is_some (row_at j s t a b)) (has m a b) (matches j s t a b) (there_cells j (row_of s a) (row_of t b) one other)

  -- rows behind the absent one
  first_behind : (a : ℕ) → (a == 0) ≡ false → IsSome (row_of (with_absent j.first s) a) → IsSome (row_of s a)
  first_behind a q some = let same = absent_other j.first s a (above_zero a q) in subst (λ (c : Cell). IsSome c) same some

  second_behind : (b : ℕ) → (b == 0) ≡ false → IsSome (row_of (with_absent j.second t) b) → IsSome (row_of t b)
  second_behind b q some = let same = absent_other j.second t b (above_zero b q) in subst (λ (c : Cell). IsSome c) same some

  -- a first row that is in an entry alone is in no other
  first_only : (a b : ℕ) → has m a 0 ≡ true → has m a b ≡ true → (b == 0) ≡ true
  first_only a b lone h =
      by_test (b == 0)
      (λ q. q)
      (λ q.
      let one = has_some m a 0 lone in
      let other = has_some m a b h in
      let two = count_two (has_pair a 0) (has_pair a b) (λ e. e.1 == a) m
      (λ e p. (and_parts (e.1 == a) (e.2 == 0) p).0)
      (λ e p. (and_parts (e.1 == a) (e.2 == b) p).0)
      (λ e p.
      let zero_half = eqb-true e.2 0 (and_parts (e.1 == a) (e.2 == 0) p).1 in
      let away : (e.2 == b) ≡ false = ne_eqb e.2 b (λ u. let high = above_zero b q in absurd (omega (arith, zero_half, u, high))) in
      and_right (e.1 == a) (e.2 == b) away) in
      let alone = old.first.alone a one in
      absurd (omega (arith, one, other, two, alone)))
    where
      and_right : (u v : Bool) → v ≡ false → (u && v) ≡ false
      and_right true v h = h
      and_right false v h = refl

  -- nor a second one
  second_only : (a b : ℕ) → has m 0 b ≡ true → has m a b ≡ true → (a == 0) ≡ true
  second_only a b lone h =
      by_test (a == 0)
      (λ q. q)
      (λ q.
      let one = has_some m 0 b lone in
      let lone_too = count_less (has_pair 0 b) (λ e. e.2 == b && e.1 == 0) m
      (λ e p. let both = and_parts (e.1 == 0) (e.2 == b) p in and_from (e.2 == b) (e.1 == 0) both.1 both.0) in
      let other = has_some m a b h in
      let two = count_two (has_pair 0 b) (has_pair a b) (λ e. e.2 == b) m
      (λ e p. (and_parts (e.1 == 0) (e.2 == b) p).1)
      (λ e p. (and_parts (e.1 == a) (e.2 == b) p).1)
      (λ e p.
      let zero_half = eqb-true e.1 0 (and_parts (e.1 == 0) (e.2 == b) p).0 in
      let away : (e.1 == a) ≡ false = ne_eqb e.1 a (λ u. let high = above_zero a q in absurd (omega (arith, zero_half, u, high))) in
      and_left (e.1 == a) (e.2 == b) away) in
      let alone = old.second.alone b (omega (arith, one, lone_too)) in
      absurd (omega (arith, one, other, two, alone)))
    where
      and_left : (u v : Bool) → u ≡ false → (u && v) ≡ false
      and_left true v h = absurd (false≢true (sym h))
      and_left false v h = refl

  -- no row alone in an entry makes a full one
  none_full : (test : ℕ → Bool) (rows : Rows) → ((id : ℕ) → IsSome (row_of rows id) → test id ≡ true → ⊥) → not (some_row test rows) ≡ true
  none_full test rows h =
      by_test (some_row test rows)
      (λ q. some_is test rows (not (some_row test rows) ≡ true) q (λ id some passes. absurd (h id some passes)))
      (λ q. ap not q)

  -- each entry is one
  entry_still : (a b : ℕ) → has m a b ≡ true → IsSome (row_of (with_absent j.first s) a) → IsSome (row_of (with_absent j.second t) b) → is a b ≡ true
  entry_still a b h one other =
      by_test (a == 0)
      (λ q.
      by_test (b == 0)
      (λ p.
      let none : has m 0 0 ≡ true = sym (ap (λ (i : ℕ). has m i b) (eqb-true a 0 q) ∙ ap (λ (i : ℕ). has m 0 i) (eqb-true b 0 p)) ∙ h in
      let some = has_some m 0 0 none in
      let zero_count = old.none in
      absurd (omega (arith, some, zero_count)))
      (λ p.
      let lone : has m 0 b ≡ true = sym (ap (λ (i : ℕ). has m i b) (eqb-true a 0 q)) ∙ h in
      let there = second_behind b p other in
      let no_full = none_full (λ a. is_shown j s t m s t a b) s
      (λ i some passes.
      let was : has m i b ≡ true = sym (full_still i b some there) ∙ passes in
      let none = second_only i b lone was in
      let low = row_from 1 s i old.first.rise some in
      let nonzero = not_zero i low in
      false≢true (sym nonzero ∙ none)) in
      rw (q, p) (and_from (is_some (row_of t b)) _ there no_full)))
      (λ q.
      by_test (b == 0)
      (λ p.
      let lone : has m a 0 ≡ true = sym (ap (λ (i : ℕ). has m a i) (eqb-true b 0 p)) ∙ h in
      let there = first_behind a q one in
      let no_full = none_full (λ b. is_shown j s t m s t a b) t
      (λ i some passes.
      let was : has m a i ≡ true = sym (full_still a i there some) ∙ passes in
      let none = first_only a i lone was in
      let low = row_from 1 t i old.second.rise some in
      let nonzero = not_zero i low in
      false≢true (sym nonzero ∙ none)) in
      rw (q, p) (and_from (is_some (row_of s a)) _ there no_full))
      (λ p.
      let full = full_still a b (first_behind a q one) (second_behind b p other) in
      rw (q, p) (full ∙ h)))

  -- and no other pair is one
  none_new : (a b : ℕ) → (is a b && not (has m a b)) ≡ false
  none_new a b =
      by_test (a == 0)
      (λ q.
      by_test (b == 0)
      (λ p. rw (q, p) refl)
      (λ p.
      by_test (is_some (row_of t b))
      (λ there.
      let low = row_from 1 t b old.second.rise there in
      let some = old.second.each b there in
      some_entry (λ e. e.2 == b) m m (with_absent j.first s) (with_absent j.second t) ((is a b && not (has m a b)) ≡ false) (all_in m) old.joined.there some
      (λ e u was one other.
      let same = eqb-true e.2 b u in
      let was_b : has m e.1 b ≡ true = sym (ap (λ (i : ℕ). has m e.1 i) same) ∙ was in
      by_test (e.1 == 0)
      (λ v.
      let lone : has m a b ≡ true = ap (λ (i : ℕ). has m i b) (eqb-true a 0 q ∙ sym (eqb-true e.1 0 v)) ∙ was_b in
      and_not (is a b) (has m a b) lone)
      (λ v.
      let here = first_behind e.1 v one in
      let full = full_still e.1 b here there ∙ was_b in
      let found = some_found (λ a. is_shown j s t m s t a b) s e.1 here full in
      rw (q, p, there, found) refl)))
      (λ gone. rw (q, p, gone) refl)))
      (λ q.
      by_test (b == 0)
      (λ p.
      by_test (is_some (row_of s a))
      (λ there.
      let some = old.first.each a there in
      some_entry (λ e. e.1 == a) m m (with_absent j.first s) (with_absent j.second t) ((is a b && not (has m a b)) ≡ false) (all_in m) old.joined.there some
      (λ e u was one other.
      let same = eqb-true e.1 a u in
      let was_a : has m a e.2 ≡ true = sym (ap (λ (i : ℕ). has m i e.2) same) ∙ was in
      by_test (e.2 == 0)
      (λ v.
      let lone : has m a b ≡ true = ap (λ (i : ℕ). has m a i) (eqb-true b 0 p ∙ sym (eqb-true e.2 0 v)) ∙ was_a in
      and_not (is a b) (has m a b) lone)
      (λ v.
      let here = second_behind e.2 v other in
      let full = full_still a e.2 there here ∙ was_a in
      let found = some_found (λ b. is_shown j s t m s t a b) t e.2 here full in
      rw (q, p, there, found) refl)))
      (λ gone. rw (q, p, gone) refl))
      (λ p.
      let none = still_none j (is_some (row_at j s t a b)) (has m a b) (matches j s t a b) in
      rw (q, p) none))
    where
      and_not : (u h : Bool) → h ≡ true → (u && not h) ≡ false
      and_not true h e = ap not e
      and_not false h e = refl

  -- so all entries are kept
  all_kept : (es : Pairs) → AllIn m es → AreThere (with_absent j.first s) (with_absent j.second t) es → filter (λ e. is e.1 e.2) es ≡ es
  all_kept [] all there = refl
  all_kept (e ∷ es) all there =
      let passes = entry_still e.1 e.2 all.0 there.0.0 there.0.1 in
      rw passes (ap (λ (rest : Pairs). e ∷ rest) (all_kept es all.1 there.1))

  -- and none is new
  no_new : (xs : List (ℕ × ℕ)) → filter (λ x. is x.0 x.1 && not (has m x.0 x.1)) xs ≡ []
  no_new [] = refl
  no_new (x ∷ xs) = let none = none_new x.0 x.1 in rw none (no_new xs)

  pub none_fresh : new_entries j s t m s t ≡ []
  none_fresh = no_new (all_pairs (with_absent j.first s) (with_absent j.second t))

  -- so the memory stays
  pub same_entries : (n : ℕ) → entries j s t m s t n ≡ m
  same_entries n =
      ap (λ (xs : List (ℕ × ℕ)). filter (λ e. is e.1 e.2) m ++ numbered n xs) none_fresh
      ∙ append-nil (filter (λ e. is e.1 e.2) m)
      ∙ all_kept m (all_in m) old.joined.there
