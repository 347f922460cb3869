-- OUTER JOIN on a condition, from R: which identifiers are closed, and that they are a footprint.
use Rattle.std.specs.Prelude.{◌≡◌, ℕ, ◌≤◌, ◌==◌, Bool, true, List, ◌&&◌, not, Option, Some}
use Rattle.par_base.specs.declared.value.Value.{Value}
use Rattle.row_store.specs.Rows.{Rows, row_of}
use Rattle.id_memory.specs.Pairs.{Pairs, pair_of}
use Rattle.op_law.specs.Identifiers.{has_id, IdsRise}
use Rattle.op_law.specs.Meaning.{PairState, flip}
use Rattle.row_parts.specs.Places.{pick as part}
use Rattle.row_changes.specs.Changed.{TableChanges, changed_tables}
use Rattle.row_changes.specs.Touched.{EachPass, touched}
use Rattle.operator_changes.specs.Calls.{MayChange}
use Rattle.operator_changes.specs.Footprint.{IsFootprint, passes}
use Rattle.pair_rows.specs.Given.{kept_in, least, or_id}
use Rattle.pair_rows.specs.Halves.{first_of, second_of}
use Rattle.pair_rows.specs.Shown.{Joining}
use Rattle.pair_rows.specs.Sides.{table_at}
use Rattle.pair_rows.specs.Stays.{stands}
use Rattle.outer_law.specs.Entries.{with_half}
use Rattle.outer_law.specs.OuterOn.{outer_on}
use Rattle.outer_law.specs.Placed.{first_own, full, second_own, standing}
use Rattle.pair_parts.specs.Parts.{memory_only}
use Rattle.cond_parts.specs.Apart.{MapsPairApart}
use Rattle.cond_parts.specs.Closed.{BringsRows}

-- a row that passes and stands in an entry that doesn't stands in one that passes and isn't changed
abbrev pub BringsStill : (ℕ → Bool) → (ℕ → Bool) → (ℕ × ℕ × ℕ → ℕ) → Pairs → Type 0
BringsStill C P pick m = (q : ℕ) → 1 ≤ q → P q ≡ true → stands pick (memory_only (λ i. not (P i)) m) q ≡ true → stands pick (memory_only (λ i. P i && not (C i)) m) q ≡ true

-- a row that passes and stands in a kept entry with both halves stands in one that passes
abbrev pub BringsShared : (ℕ → Bool) → (ℕ × ℕ × ℕ → ℕ) → Pairs → Type 0
BringsShared P pick kept = (q : ℕ) → 1 ≤ q → P q ≡ true → stands pick (full kept) q ≡ true → stands pick (full (memory_only P kept)) q ≡ true

-- the old row of S that is found for a new row of R with both halves: its own one, or else the least one in a kept entry with both halves that has these values
abbrev pub first_found : Joining → Rows → Pairs → Rows → Rows → ℕ → List Value → Option ℕ
first_found j r m s new id row = or_id (first_own j r m (id, row)) (least (standing first_of (full (kept_in r m new)) s) (part j.first row))

-- and that of T
abbrev pub second_found : Joining → Rows → Pairs → Rows → Rows → ℕ → List Value → Option ℕ
second_found j r m t new id row = or_id (second_own j r m (id, row)) (least (standing second_of (full (kept_in r m new)) t) (part j.second row))

-- a changed row: it is one of C, and stands in new R
abbrev pub IsChanged : (ℕ → Bool) → Rows → ℕ → List Value → Type 0
IsChanged C new id row = (C id ≡ true) × (row_of new id ≡ Some row)

-- CLOSED FOR CHANGES OF R: as for JOIN; rows that may be shared stand in entries of the part that may be, and an own half is in no other entry of the part where it is in no other at all
pub record BringsPlaced (j : Joining) (C P : ℕ → Bool) (s t r : Rows) (m : Pairs) (new : Rows) : Type 0 where
  pub rows : BringsRows P m
  pub first_still : BringsStill C P first_of m
  pub second_still : BringsStill C P second_of m
  pub first_shared : BringsShared P first_of (kept_in r m new)
  pub second_shared : BringsShared P second_of (kept_in r m new)
  pub first : (id : ℕ) (row : List Value) (a : ℕ) → IsChanged C new id row → first_found j r m s new id row ≡ Some a → P a ≡ true
  pub second : (id : ℕ) (row : List Value) (b : ℕ) → IsChanged C new id row → second_found j r m t new id row ≡ Some b → P b ≡ true
  pub pairs : (id : ℕ) (row : List Value) (a b entry : ℕ) → IsChanged C new id row → first_found j r m s new id row ≡ Some a → second_found j r m t new id row ≡ Some b → pair_of m entry ≡ Some (a, b) → P entry ≡ true
  pub first_lone : (id : ℕ) (row : List Value) (a : ℕ) → IsChanged C new id row → first_own j r m (id, row) ≡ Some a → (with_half first_of a (memory_only P m) == 1) ≡ (with_half first_of a m == 1)
  pub second_lone : (id : ℕ) (row : List Value) (b : ℕ) → IsChanged C new id row → second_own j r m (id, row) ≡ Some b → (with_half second_of b (memory_only P m) == 1) ≡ (with_half second_of b m == 1)

-- identifiers that are closed for changes of R
pub record IsClosedBackward (j : Joining) (near : TableChanges) (p : PairState) (n : ℕ) (ids : List ℕ) : Type 0 where
  pub rise : IdsRise 0 ids
  pub touches : EachPass (has_id ids) near
  pub absent : has_id ids 0 ≡ true
  pub brings : BringsPlaced j (has_id (touched near)) (passes ids n) (table_at 0 p.target) (table_at 1 p.target) (table_at 0 p.source) p.memory (table_at 0 (changed_tables p.source near))

-- such identifiers are a footprint
abbrev pub ClosedIsBackwardFootprint : Type 0
ClosedIsBackwardFootprint = (j : Joining) (near : TableChanges) (p : PairState) (n : ℕ) (ids : List ℕ) → MayChange (flip (outer_on j)) near p n → IsClosedBackward j near p n ids → IsFootprint (flip (outer_on j)) near p n ids

-- and split the old pair and the new one
abbrev pub ClosedBackwardMapsApart : Type 0
ClosedBackwardMapsApart = (j : Joining) (near : TableChanges) (p : PairState) (n : ℕ) (ids : List ℕ) → MayChange (flip (outer_on j)) near p n → IsClosedBackward j near p n ids → MapsPairApart (flip (outer_on j)) near p n (passes ids n)
