-- All identifiers together are closed.
use Rattle.std.specs.Prelude.{◌≡◌, ℕ, true, List}
use Rattle.op_law.specs.Identifiers.{has_id}
use Rattle.op_law.specs.Meaning.{PairState}
use Rattle.row_changes.specs.Changed.{TableChanges}
use Rattle.operator_changes.specs.Footprint.{passes}
use Rattle.pair_rows.specs.Shown.{Joining}
use Rattle.cond_parts.specs.Whole.{AreAll}
use Rattle.outer_parts.specs.Backward.{IsClosedBackward}
use Rattle.outer_parts.specs.Closed.{IsClosedForward, IsOuterClosed}

-- what closed identifiers are, of changes of either side
pub record IsClosedWhole (j : Joining) (near : TableChanges) (p : PairState) (n : ℕ) (ids : List ℕ) : Type 0 where
  pub pair : IsOuterClosed (passes ids n) p.memory
  pub forward : IsClosedForward j near p n ids
  pub backward : IsClosedBackward j near p n ids

-- all, with 0, are closed, whatever the changes
abbrev pub AllAreClosed : Type 0
AllAreClosed = (j : Joining) (near : TableChanges) (p : PairState) (n : ℕ) (ids : List ℕ) → AreAll near n ids → has_id ids 0 ≡ true → IsClosedWhole j near p n ids
