use Rattle.std.proofs.Common.{take}
use Rattle.write_plans.specs.Calls.{AreChangesNow}
use Rattle.write_plans.proofs.differing.table_changes.Given as goal

abbrev pub invariant-loop-number : goal.invariant-loop-number
invariant-loop-number l = AreChangesNow l.made (take l.number-index l.numbers) l.changes
