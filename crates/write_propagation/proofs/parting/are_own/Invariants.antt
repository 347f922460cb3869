use Rattle.std.proofs.Common.{take}
use Rattle.row_changes.specs.Touched.{AllPass}
use Rattle.operator_changes.specs.Footprint.{passes}
use Rattle.write_propagation.proofs.parting.are_own.Given as goal

abbrev pub invariant-loop-change : goal.invariant-loop-change
invariant-loop-change l = AllPass (passes l.ids l.next) (take l.change-index l.changes)
