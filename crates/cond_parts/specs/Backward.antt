-- JOIN ON a condition, from R: which identifiers are closed, and that they are a footprint.
use Rattle.std.specs.Prelude.{◌≡◌, ℕ, Bool, true, List, ◌&&◌, not, Option, Some}
use Rattle.std.specs.Option.{option_map}
use Rattle.par_base.specs.declared.value.Value.{Value}
use Rattle.row_store.specs.Rows.{Rows, row_of}
use Rattle.id_memory.specs.Pairs.{Pairs, pair_of}
use Rattle.op_law.specs.Identifiers.{has_id, IdsRise}
use Rattle.op_law.specs.Meaning.{PairState, flip}
use Rattle.row_parts.specs.Places.{pick as part}
use Rattle.row_changes.specs.Changed.{TableChanges, changed_tables}
use Rattle.row_changes.specs.Touched.{EachPass, touched}
use Rattle.operator_changes.specs.Calls.{MayChange}
use Rattle.operator_changes.specs.Footprint.{IsFootprint, passes}
use Rattle.pair_rows.specs.Given.{least, or_id, own}
use Rattle.pair_rows.specs.Halves.{first_of, second_of}
use Rattle.pair_rows.specs.Shown.{Joining}
use Rattle.pair_rows.specs.Sides.{table_at}
use Rattle.pair_rows.specs.Stays.{stands}
use Rattle.op_cond_join.specs.JoinOn.{join_on}
use Rattle.pair_parts.specs.Parts.{memory_only}
use Rattle.cond_parts.specs.Closed.{BringsRows}

-- a row that passes and stands in an entry that doesn't stands in one that passes and isn't changed
abbrev pub BringsStill : (ℕ → Bool) → (ℕ → Bool) → (ℕ × ℕ × ℕ → ℕ) → Pairs → Type 0
BringsStill C P pick m = (q : ℕ) → P q ≡ true → stands pick (memory_only (λ i. not (P i)) m) q ≡ true → stands pick (memory_only (λ i. P i && not (C i)) m) q ≡ true

-- the old row of S that is found for a new row of R: its own one, or else the least with these values
abbrev pub first_found : Joining → Rows → Pairs → Rows → ℕ → List Value → Option ℕ
first_found j r m s id row = or_id (own j.first (row_of r id) (option_map (λ pair. pair.0) (pair_of m id)) row) (least s (part j.first row))

-- and that of T
abbrev pub second_found : Joining → Rows → Pairs → Rows → ℕ → List Value → Option ℕ
second_found j r m t id row = or_id (own j.second (row_of r id) (option_map (λ pair. pair.1) (pair_of m id)) row) (least t (part j.second row))

-- CLOSED FOR CHANGES OF R, of which the rows at C are changed: an identifier of an entry brings both rows of it, a row in an entry brings one that isn't changed, and a changed row brings the old rows that are found for it, and the entry that has both
pub record BringsAssigned (j : Joining) (C P : ℕ → Bool) (s t r : Rows) (m : Pairs) (new : Rows) : Type 0 where
  pub rows : BringsRows P m
  pub first_still : BringsStill C P first_of m
  pub second_still : BringsStill C P second_of m
  pub first : (id : ℕ) (row : List Value) (a : ℕ) → C id ≡ true → row_of new id ≡ Some row → first_found j r m s id row ≡ Some a → P a ≡ true
  pub second : (id : ℕ) (row : List Value) (b : ℕ) → C id ≡ true → row_of new id ≡ Some row → second_found j r m t id row ≡ Some b → P b ≡ true
  pub pairs : (id : ℕ) (row : List Value) (a b entry : ℕ) → C id ≡ true → row_of new id ≡ Some row → first_found j r m s id row ≡ Some a → second_found j r m t id row ≡ Some b → pair_of m entry ≡ Some (a, b) → P entry ≡ true

-- identifiers that are closed for changes of R
pub record IsClosedBackward (j : Joining) (near : TableChanges) (p : PairState) (n : ℕ) (ids : List ℕ) : Type 0 where
  pub rise : IdsRise 0 ids
  pub touches : EachPass (has_id ids) near
  pub brings : BringsAssigned j (has_id (touched near)) (passes ids n) (table_at 0 p.target) (table_at 1 p.target) (table_at 0 p.source) p.memory (table_at 0 (changed_tables p.source near))

-- such identifiers are a footprint
abbrev pub ClosedIsBackwardFootprint : Type 0
ClosedIsBackwardFootprint = (j : Joining) (near : TableChanges) (p : PairState) (n : ℕ) (ids : List ℕ) → MayChange (flip (join_on j)) near p n → IsClosedBackward j near p n ids → IsFootprint (flip (join_on j)) near p n ids
