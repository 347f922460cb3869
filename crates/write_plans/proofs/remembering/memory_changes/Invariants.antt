use Rattle.std.proofs.Common.{take}
use Rattle.write_plans.specs.Calls.{AreMemoryChangesNow}
use Rattle.write_plans.proofs.remembering.memory_changes.Given as goal

abbrev pub invariant-loop-number : goal.invariant-loop-number
invariant-loop-number l = AreMemoryChangesNow l.kept l.made (take l.number-index l.numbers) l.changes
