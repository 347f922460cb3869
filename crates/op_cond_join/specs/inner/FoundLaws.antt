-- The new source: its rows are the parts of the new joined table's rows.
use Rattle.std.proofs.Common.{◌≡◌, ℕ, List, [], ◌∷◌, length, Bool, true, false, not, ◌||◌, Option, Some, None, IsSome, refl, ap, ◌∙◌, arith}
use Rattle.par_base.specs.declared.value.Value.{Value}
use Rattle.row_store.specs.Rows.{Rows, row_of}
use Rattle.id_memory.specs.Pairs.{Pairs, pair_of}
use Rattle.op_law.specs.Tables.{RowsWide}
use Rattle.op_law.specs.Sound.{IsBelow, ValuesSound, RowsSound}
use Rattle.op_law.proofs.SoundLaws.{rows_more}
use Rattle.op_rows.specs.Cells.{with_row}
use Rattle.row_parts.specs.Places.{pick as part, ArePartition}
use Rattle.row_parts.specs.RowCells.{Cell}
use Rattle.row_parts.specs.inner.PlaceLemmas.{pick_sound}
use Rattle.par_base.specs.inner.SameLaws.{row_same}
use Rattle.pair_rows.specs.inner.Lookups.{filter_all}
use Rattle.pair_rows.specs.Shown.{Joining, row_at, joined, AreThere, IsJoined}
use Rattle.pair_rows.specs.inner.ShownLaws.{row_for, joined_found, there_cells}
use Rattle.pair_rows.specs.Given.{unchanged}
use Rattle.op_cond_join.specs.Assigned.{Assigning, Placed, first_got, second_got, last_got, place_by, place_row, assigned, ending}
use Rattle.pair_rows.specs.Stays.{stands, staying}
use Rattle.pair_rows.specs.inner.FoundPairs.{AreFound, AllPaired, all_paired}
use Rattle.op_cond_join.specs.inner.AssignedLaws.{Ready, placed, end_grown, first_is, second_is, last_is}

module _ (j : Joining) (parts : ArePartition j.first j.second) (s t r : Rows) (m : Pairs) (is : IsJoined j s t r m) (wide : RowsWide (length j.first) s) (other_wide : RowsWide (length j.second) t) where
  -- what holds of what is assigned
  abbrev TheReady : ℕ → Assigning → Type 0
  TheReady n d = Ready j parts s t r m is wide other_wide n d

  -- what is assigned is found at the end
  pub end_found : (n : ℕ) (d : Assigning) (xs : Rows) → TheReady n d → AreFound j (ending j r m d xs).first (ending j r m d xs).second (assigned j r m d xs) xs
  end_found n d [] ready = tt
  end_found n d (x ∷ xs) ready =
      let p = placed j parts s t r m is wide other_wide n d x ready in
      let on = end_grown j parts s t r m is wide other_wide n (place_row j r m d x).after xs p.ready in
      ((refl, on.first_keeps (place_row j r m d x).first (part j.first x.1) p.first, on.second_keeps (place_row j r m d x).second (part j.second x.1) p.second), end_found n (place_row j r m d x).after xs p.ready)

  -- bounds
  sound_by : (n : ℕ) (d : Assigning) (x : ℕ × List Value) (o : Option (ℕ × ℕ)) → TheReady n d → IsBelow n x.0 → ValuesSound n x.1 → RowsSound d.next d.first → RowsSound d.next d.second
      → RowsSound (place_by j r m d x o).after.next (place_by j r m d x o).after.first × RowsSound (place_by j r m d x o).after.next (place_by j r m d x o).after.second
  sound_by n d x (Some pair) ready below values first second = (first, second)
  sound_by n d x None ready below values first second =
      let a = first_got j r m d x in
      let b = second_got j r m d x in
      let c = last_got j r m d x in
      let one = first_is j parts s t r m is wide other_wide n d x ready in
      let two = second_is j parts s t r m is wide other_wide n d x ready in
      let three = last_is j parts s t r m is wide other_wide n d x ready in
      let start = ready.next in
      let low = below.0 in
      let high = below.1 in
      let one_next = one.next in
      let two_next = two.next in
      let first_sound = one.sound n (omega (arith, start, low, high)) start (pick_sound n j.first x.1 values) first in
      let second_sound = two.sound n (omega (arith, start, low, high, one_next)) (omega (arith, start, one_next)) (pick_sound n j.second x.1 values) (rows_more d.next a.next one_next d.second second) in
      let last_sound = three.sound n (omega (arith, start, low, high, one_next, two_next)) (omega (arith, start, one_next, two_next)) (pick_sound n j.first x.1 values) (rows_more a.next b.next two_next a.rows first_sound) in
      (last_sound, rows_more b.next c.next three.next b.rows second_sound)

  -- all that is assigned is sound
  pub end_sound : (n : ℕ) (d : Assigning) (xs : Rows) → TheReady n d → RowsSound n xs → RowsSound d.next d.first → RowsSound d.next d.second
      → RowsSound (ending j r m d xs).next (ending j r m d xs).first × RowsSound (ending j r m d xs).next (ending j r m d xs).second
  end_sound n d [] ready sound first second = (first, second)
  end_sound n d (x ∷ xs) ready sound first second =
      let p = placed j parts s t r m is wide other_wide n d x ready in
      let both = sound_by n d x (unchanged (row_of r x.0) (pair_of m x.0) x.1) ready sound.0.0 sound.0.1 first second in
      end_sound n (place_row j r m d x).after xs p.ready sound.1 both.0 both.1

  -- still
  cell_row : (c : Cell) → IsSome c → (X : Type 0) → ((row : List Value) → c ≡ Some row → X) → X
  cell_row (Some row) h X f = f row refl
  cell_row None h X f = absurd (cc)

  -- unchanged rows keep their pairs
  still_from : (d : Assigning) (es : Pairs) → AllPaired m es → AreThere s t es → (assigned j r m d (joined j s t es) ≡ es) × (ending j r m d (joined j s t es) ≡ d)
  still_from d [] paired there = (refl, refl)
  still_from d (e ∷ es) paired there =
      cell_row (row_at j s t e.1 e.2) (there_cells j (row_of s e.1) (row_of t e.2) there.0.0 there.0.1) ((assigned j r m d (joined j s t (e ∷ es)) ≡ e ∷ es) × (ending j r m d (joined j s t (e ∷ es)) ≡ d))
      (λ row at.
      let found : row_of r e.0 ≡ Some row = ap (λ (rows : Rows). row_of rows e.0) is.rows ∙ joined_found j s t m e.0 is.there ∙ ap (row_for j s t) paired.0 ∙ at in
      let pair = paired.0 in
      let same = row_same row in
      let is_kept : unchanged (row_of r e.0) (pair_of m e.0) row ≡ Some (e.1, e.2) = rw (found, pair, same) refl in
      let place : place_row j r m d (e.0, row) ≡ record { first = e.1; second = e.2; after = d } = ap (λ (o : Option (ℕ × ℕ)). place_by j r m d (e.0, row) o) is_kept in
      let rest = still_from d es paired.1 there.1 in
      let rows : joined j s t (e ∷ es) ≡ (e.0, row) ∷ joined j s t es = ap (λ (c : Cell). with_row e.0 c (joined j s t es)) at in (
        ap (λ (xs : Rows). assigned j r m d xs) rows
            ∙ ap (λ (p : Placed). (e.0, p.first, p.second) ∷ assigned j r m p.after (joined j s t es)) place
            ∙ ap (λ (rest : Pairs). e ∷ rest) rest.0,
        ap (λ (xs : Rows). ending j r m d xs) rows ∙ ap (λ (p : Placed). ending j r m p.after (joined j s t es)) place ∙ rest.1,
      ))

  -- so the old target gives the old memory
  pub still_assigned : (d : Assigning) → (assigned j r m d r ≡ m) × (ending j r m d r ≡ d)
  still_assigned d =
      let both = still_from d m (all_paired 0 m is.rises) is.there in
      (ap (λ (xs : Rows). assigned j r m d xs) is.rows ∙ both.0, ap (λ (xs : Rows). ending j r m d xs) is.rows ∙ both.1)

-- one of both
either : (b : Bool) → (not b || b) ≡ true
either true = refl
either false = refl

-- all rows stay where no pair changes
pub all_stay : (pick : ℕ × ℕ × ℕ → ℕ) (m : Pairs) (rows : Rows) → staying pick m m rows ≡ rows
all_stay pick m rows = filter_all (λ i. not (stands pick m i) || stands pick m i) rows (λ id. either (stands pick m id))
