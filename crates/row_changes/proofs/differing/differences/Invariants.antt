use Rattle.std.proofs.Common.{take}
use Rattle.op_law.specs.Tables.{contents}
use Rattle.row_changes.specs.Differences.{AreDifferences}
use Rattle.row_changes.proofs.differing.differences.Given as goal

abbrev pub invariant-loop-which : goal.invariant-loop-which
invariant-loop-which l = AreDifferences (contents (take l.which l.before)) (contents (take l.which l.now)) l.tables
