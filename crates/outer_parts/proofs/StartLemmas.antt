-- What is there at the start of a part, and entries of rows that aren't changed.
use Rattle.std.proofs.Common.{◌≡◌, ℕ, ◌≤◌, ◌==◌, List, [], ◌∷◌, filter, Bool, true, false, ◌&&◌, not, Option, Some, refl, ap, sym, ◌∙◌, arith}
use mathlib.Core.Logic.{inl}
use Rattle.par_base.specs.declared.value.Value.{Value}
use Rattle.row_store.specs.Rows.{Rows, row_of}
use Rattle.id_memory.specs.Pairs.{Pairs}
use Rattle.op_law.specs.Local.{rows_only}
use Rattle.op_law.specs.Sound.{PairsSound}
use Rattle.row_parts.specs.RowCells.{by_test}
use Rattle.pair_rows.specs.Given.{kept_entry, kept_in}
use Rattle.pair_rows.specs.Halves.{first_of, second_of}
use Rattle.pair_rows.specs.Shown.{Joining}
use Rattle.pair_rows.specs.Stays.{stands}
use Rattle.pair_rows.specs.inner.Changed.{AreRowsOf}
use Rattle.pair_rows.specs.inner.FoundPairs.{all_paired}
use Rattle.outer_law.specs.Entries.{IsOuter, with_absent}
use Rattle.outer_law.specs.Placed.{Placed, Placing, beginning, full, place_row, placed, standing}
use Rattle.pair_parts.specs.Parts.{memory_only}
use Rattle.cond_parts.proofs.AssignedLemmas.{each_kept, each_passes, kept_part}
use Rattle.cond_parts.proofs.FilterLemmas.{has_part}
use Rattle.cond_parts.proofs.JoinedLemmas.{joined_memory}
use Rattle.cond_parts.proofs.MemoryLemmas.{both_ways}
use Rattle.cond_parts.proofs.UnchangedLemmas.{entries_at, of_joined, paired_only, there_only}
use Rattle.outer_parts.specs.Backward.{BringsPlaced, BringsShared}
use Rattle.outer_parts.proofs.ChoiceLemmas.{AllIds, filter_in, ids_from}
use Rattle.outer_parts.proofs.PlacedLemmas.{Fit, is_kept, kept_place, part_placing}

-- what stands in an entry that passes two tests stands in one that passes the second
stands_less : (T U : ℕ × ℕ × ℕ → Bool) (pick : ℕ × ℕ × ℕ → ℕ) (es : Pairs) (q : ℕ) → stands pick (filter U (filter T es)) q ≡ true → stands pick (filter U es) q ≡ true
stands_less T U pick [] q e = e
stands_less T U pick (x ∷ xs) q e =
    by_test (T x)
    (λ u.
    let here : stands pick (filter U (x ∷ filter T xs)) q ≡ true = rw u at e in
    by_test (U x)
    (λ v.
    let front : stands pick (x ∷ filter U (filter T xs)) q ≡ true = rw v at here in
    rw v (by_test (pick x == q) (λ w. rw w refl) (λ w. let rest : stands pick (filter U (filter T xs)) q ≡ true = rw w at front in rw w (stands_less T U pick xs q rest))))
    (λ v. let rest : stands pick (filter U (filter T xs)) q ≡ true = rw v at here in rw v (stands_less T U pick xs q rest)))
    (λ u.
    let rest : stands pick (filter U (filter T xs)) q ≡ true = rw u at e in
    let ih = stands_less T U pick xs q rest in
    by_test (U x) (λ v. rw v (by_test (pick x == q) (λ w. rw w refl) (λ w. rw w ih))) (λ v. rw v ih))

-- the rows that may be shared in a part
shared_part : (P : ℕ → Bool) (pick : ℕ × ℕ × ℕ → ℕ) (kept : Pairs) (rows : Rows) → AllIds (λ q. 1 ≤ q) rows → BringsShared P pick kept → standing pick (full (memory_only P kept)) (rows_only P rows) ≡ rows_only P (standing pick (full kept) rows)
shared_part P pick kept rows all brings =
    filter_in P (stands pick (full kept)) (stands pick (full (memory_only P kept))) rows all
    (λ q low pass.
    both_ways (stands pick (full (memory_only P kept)) q) (stands pick (full kept) q)
    (stands_less (λ e. P e.0) (λ e. not (e.1 == 0) && not (e.2 == 0)) pick kept q)
    (λ e. brings q low pass e))

module _ (j : Joining) (C P : ℕ → Bool) (n : ℕ) (s t r : Rows) (m : Pairs) (new : Rows) (is : IsOuter j s t r m) (sound : PairsSound n m)
    (in_part_of : (q : ℕ) → C q ≡ true → P q ≡ true) (high : (q : ℕ) → n ≤ q → P q ≡ true) (zero : P 0 ≡ true) (real : (id : ℕ) (row : List Value) → row_of new id ≡ Some row → 1 ≤ n)
    (same_r : (q : ℕ) → C q ≡ false → row_of new q ≡ row_of r q) (c : BringsPlaced j C P s t r m new) where
  s_real : AllIds (λ q. 1 ≤ q) s
  s_real = ids_from 1 s (omega arith) is.first.rise

  t_real : AllIds (λ q. 1 ≤ q) t
  t_real = ids_from 1 t (omega arith) is.second.rise

  -- at the start
  pub start_part : beginning (rows_only P s) (rows_only P t) (rows_only P r) (memory_only P m) (rows_only P new) n ≡ part_placing j C P n s t r m new is sound in_part_of high zero real same_r c (beginning s t r m new n)
  start_part =
      let kept = kept_in r m new in
      ap (λ (es : Pairs). start_of (standing first_of (full es) (rows_only P s)) (standing second_of (full es) (rows_only P t)) es) (kept_part P r m new)
      ∙ ap (λ (rows : Rows). start_of rows (standing second_of (full (memory_only P kept)) (rows_only P t)) (memory_only P kept)) (shared_part P first_of kept s s_real c.first_shared)
      ∙ ap (λ (rows : Rows). start_of (rows_only P (standing first_of (full kept) s)) rows (memory_only P kept)) (shared_part P second_of kept t t_real c.second_shared)
    where
      start_of : Rows → Rows → Pairs → Placing
      start_of one other es = record { first = rows_only P s; second = rows_only P t; first_shared = one; second_shared = other; taken = es; next = n }

  pub start_fit : Fit j C P n s t r m new is sound in_part_of high zero real same_r c (beginning s t r m new n)
  start_fit = record {
    next = omega arith;
    first_from = λ x q e. inl e;
    second_from = λ x q e. inl e;
    first_rest = refl;
    second_rest = refl;
    first_real = s_real;
    second_real = t_real;
    taken = λ a b brought. has_part P a b (kept_in r m new) (each_passes P m a b (kept_in r m new) brought (each_kept r m new));
  }

  -- rows that aren't changed get the entries that they had
  placed_only : (X : ℕ → Bool) → ((q : ℕ) → X q ≡ true → C q ≡ false) → (d : Placing) (xs : Rows) → AreRowsOf new xs → memory_only X (placed j r m d xs) ≡ entries_at m (rows_only X xs)
  placed_only X still d [] are = refl
  placed_only X still d (x ∷ xs) are =
      let rest = placed_only X still (place_row j r m d x).after xs are.1 in
      by_test (X x.0)
      (λ e.
      let kept = is_kept j C P n s t r m new is sound in_part_of high zero real same_r c x.0 x.1 (still x.0 e) are.0 in
      let place = kept_place j C P n s t r m new is sound in_part_of high zero real same_r c d x kept in
      let one : (x.0, (place_row j r m d x).first, (place_row j r m d x).second) ≡ (x.0, kept.pair.0, kept.pair.1) = ap (λ (p : Placed). (x.0, p.first, p.second)) place in
      let back = ap (λ (o : Option (ℕ × ℕ)). kept_entry x.0 o (entries_at m (rows_only X xs))) (sym kept.is_pair) in
      rw e (ap (λ (k : ℕ × ℕ × ℕ). k ∷ memory_only X (placed j r m (place_row j r m d x).after xs)) one ∙ ap (λ (es : Pairs). (x.0, kept.pair.0, kept.pair.1) ∷ es) rest ∙ back))
      (λ e. rw e rest)

  -- WHERE NOTHING IS CHANGED THE NEW MEMORY HAS WHAT IT HAD
  pub memory_same : ((X : ℕ → Bool) → ((q : ℕ) → X q ≡ true → C q ≡ false) → rows_only X new ≡ rows_only X r) → (d : Placing) → AreRowsOf new new
      → (X : ℕ → Bool) → ((q : ℕ) → X q ≡ true → C q ≡ false) → memory_only X (placed j r m d new) ≡ memory_only X m
  memory_same rows d are X still =
      placed_only X still d new are
      ∙ ap (entries_at m) (rows X still ∙ ap (rows_only X) is.joined.rows ∙ joined_memory j X (with_absent j.first s) (with_absent j.second t) m)
      ∙ of_joined j (with_absent j.first s) (with_absent j.second t) m (memory_only X m) (paired_only X m m (all_paired 0 m is.joined.rises)) (there_only X (with_absent j.first s) (with_absent j.second t) m is.joined.there)
