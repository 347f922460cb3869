use Rattle.std.proofs.Common.{take}
use Rattle.write_plans.specs.Alone.{AreNoChanges}
use Rattle.write_plans.proofs.alone.no_changes.Given as goal

abbrev pub invariant-loop-number : goal.invariant-loop-number
invariant-loop-number l = AreNoChanges (take l.number-index l.numbers) l.items
