-- All identifiers together are closed.
use Rattle.std.specs.Prelude.{◌≡◌, ℕ, ◌<◌, true, List}
use Rattle.op_law.specs.Identifiers.{has_id, IdsRise}
use Rattle.op_law.specs.Meaning.{PairState}
use Rattle.row_changes.specs.Changed.{TableChanges}
use Rattle.row_changes.specs.Touched.{EachPass, touched}
use Rattle.operator_changes.specs.Footprint.{passes}
use Rattle.pair_rows.specs.Halves.{first_of, second_of}
use Rattle.pair_rows.specs.Shown.{Joining}
use Rattle.cond_parts.specs.Apart.{BringsStanding}
use Rattle.cond_parts.specs.Backward.{IsClosedBackward}
use Rattle.cond_parts.specs.Closed.{IsClosedIn}
use Rattle.cond_parts.specs.Forward.{IsClosedForward}

-- these are all that were drawn, and those that the changes name
pub record AreAll (near : TableChanges) (n : ℕ) (ids : List ℕ) : Type 0 where
  pub rise : IdsRise 0 ids
  pub touches : EachPass (has_id ids) near
  pub all : (q : ℕ) → q < n → has_id ids q ≡ true

-- what closed identifiers are, of changes of either side
pub record IsClosedWhole (j : Joining) (near : TableChanges) (p : PairState) (n : ℕ) (ids : List ℕ) : Type 0 where
  pub pair : IsClosedIn (passes ids n) p.memory
  pub forward : IsClosedForward j near p n ids
  pub first : BringsStanding (has_id (touched near)) (passes ids n) first_of p.memory
  pub second : BringsStanding (has_id (touched near)) (passes ids n) second_of p.memory
  pub backward : IsClosedBackward j near p n ids

-- all are closed, whatever the changes
abbrev pub AllAreClosed : Type 0
AllAreClosed = (j : Joining) (near : TableChanges) (p : PairState) (n : ℕ) (ids : List ℕ) → AreAll near n ids → IsClosedWhole j near p n ids
