use Rattle.std.proofs.Common.{ℕ, take}
use Rattle.row_changes.specs.Touched.{AllPass}
use Rattle.operator_changes.specs.Footprint.{passes}
use Rattle.changes_walk.specs.Changing.{latest_changes}
use Rattle.write_propagation.proofs.parting.all_own.Given as goal

abbrev pub invariant-loop-item : goal.invariant-loop-item
invariant-loop-item l = (t : ℕ) → AllPass (passes l.ids l.next) (latest_changes (take l.item-index l.made) t)
