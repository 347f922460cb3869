-- The entries of rows that aren't changed.
use Rattle.std.proofs.Common.{◌≡◌, ℕ, ◌≤◌, [], ◌∷◌, Bool, true, false, Option, Some, None, IsSome, refl, ap, sym, ◌∙◌}
use Rattle.row_store.specs.Rows.{Rows, row_of}
use Rattle.id_memory.specs.Pairs.{Pairs, pair_of}
use Rattle.op_law.specs.Local.{rows_only}
use Rattle.op_law.specs.Sound.{PairsSound}
use Rattle.op_rows.specs.Cells.{with_row}
use Rattle.row_parts.specs.RowCells.{Cell, by_test}
use Rattle.pair_rows.specs.Given.{kept_entry}
use Rattle.pair_rows.specs.Shown.{AreThere, IsJoined, Joining, joined, row_at}
use Rattle.pair_rows.specs.inner.Changed.{AreRowsOf}
use Rattle.pair_rows.specs.inner.FoundPairs.{AllPaired, all_paired}
use Rattle.pair_rows.specs.inner.ShownLaws.{there_cells}
use Rattle.op_cond_join.specs.Assigned.{Assigning, Placed, assigned, place_row}
use Rattle.pair_parts.specs.Parts.{memory_only}
use Rattle.cond_parts.specs.Backward.{BringsAssigned}
use Rattle.cond_parts.proofs.AssignedLemmas.{is_kept, kept_place}
use Rattle.cond_parts.proofs.JoinedLemmas.{joined_memory}

-- the entries of the identifiers of rows
abbrev pub entries_at : Pairs → Rows → Pairs
entries_at m [] = []
entries_at m (x ∷ xs) = kept_entry x.0 (pair_of m x.0) (entries_at m xs)

-- one row in front that is there
with_some : (m : Pairs) (id : ℕ) (c : Cell) (rows : Rows) → IsSome c → entries_at m (with_row id c rows) ≡ kept_entry id (pair_of m id) (entries_at m rows)
with_some m id (Some row) rows some = refl
with_some m id None rows some = absurd (cc)

-- the entries of joined rows
pub of_joined : (j : Joining) (s t : Rows) (m es : Pairs) → AllPaired m es → AreThere s t es → entries_at m (joined j s t es) ≡ es
of_joined j s t m [] paired there = refl
of_joined j s t m (e ∷ es) paired there =
    let some = there_cells j (row_of s e.1) (row_of t e.2) there.0.0 there.0.1 in
    let pair = paired.0 in
    with_some m e.0 (row_at j s t e.1 e.2) (joined j s t es) some
    ∙ ap (λ (o : Option (ℕ × ℕ)). kept_entry e.0 o (entries_at m (joined j s t es))) pair
    ∙ ap (λ (fs : Pairs). e ∷ fs) (of_joined j s t m es paired.1 there.1)

-- entries that pass a test are found, and their rows are there
pub paired_only : (X : ℕ → Bool) (m es : Pairs) → AllPaired m es → AllPaired m (memory_only X es)
paired_only X m [] all = tt
paired_only X m (e ∷ es) all = by_test (X e.0) (λ q. rw q (all.0, paired_only X m es all.1)) (λ q. rw q (paired_only X m es all.1))

pub there_only : (X : ℕ → Bool) (s t : Rows) (es : Pairs) → AreThere s t es → AreThere s t (memory_only X es)
there_only X s t [] all = tt
there_only X s t (e ∷ es) all = by_test (X e.0) (λ q. rw q (all.0, there_only X s t es all.1)) (λ q. rw q (there_only X s t es all.1))

module _ (j : Joining) (C P : ℕ → Bool) (n : ℕ) (s t r : Rows) (m : Pairs) (new : Rows) (is : IsJoined j s t r m) (sound : PairsSound n m)
    (in_part_of : (q : ℕ) → C q ≡ true → P q ≡ true) (high : (q : ℕ) → n ≤ q → P q ≡ true) (same_r : (q : ℕ) → C q ≡ false → row_of new q ≡ row_of r q)
    (c : BringsAssigned j C P s t r m new) where
  -- rows that aren't changed get the pairs that they had
  assigned_only : (X : ℕ → Bool) → ((q : ℕ) → X q ≡ true → C q ≡ false) → (d : Assigning) (xs : Rows) → AreRowsOf new xs → memory_only X (assigned j r m d xs) ≡ entries_at m (rows_only X xs)
  assigned_only X still d [] are = refl
  assigned_only X still d (x ∷ xs) are =
      let rest = assigned_only X still (place_row j r m d x).after xs are.1 in
      by_test (X x.0)
      (λ e.
      let kept = is_kept j C P n s t r m new is sound in_part_of high same_r c x.0 x.1 (still x.0 e) are.0 in
      let place = kept_place j C P n s t r m new is sound in_part_of high same_r c d x kept in
      let pair = kept.is_pair in
      let one : (x.0, (place_row j r m d x).first, (place_row j r m d x).second) ≡ (x.0, kept.pair.0, kept.pair.1) = ap (λ (p : Placed). (x.0, p.first, p.second)) place in
      let back = ap (λ (o : Option (ℕ × ℕ)). kept_entry x.0 o (entries_at m (rows_only X xs))) (sym pair) in
      rw e (ap (λ (k : ℕ × ℕ × ℕ). k ∷ memory_only X (assigned j r m (place_row j r m d x).after xs)) one ∙ ap (λ (es : Pairs). (x.0, kept.pair.0, kept.pair.1) ∷ es) rest ∙ back))
      (λ e. rw e rest)

  -- WHERE NOTHING IS CHANGED THE NEW MEMORY HAS WHAT IT HAD
  pub memory_same : ((X : ℕ → Bool) → ((q : ℕ) → X q ≡ true → C q ≡ false) → rows_only X new ≡ rows_only X r) → (d : Assigning) → AreRowsOf new new
      → (X : ℕ → Bool) → ((q : ℕ) → X q ≡ true → C q ≡ false) → memory_only X (assigned j r m d new) ≡ memory_only X m
  memory_same rows d are X still =
      assigned_only X still d new are
      ∙ ap (entries_at m) (rows X still ∙ ap (rows_only X) is.rows ∙ joined_memory j X s t m)
      ∙ of_joined j s t m (memory_only X m) (paired_only X m m (all_paired 0 m is.rises)) (there_only X s t m is.there)
