use Rattle.std.proofs.Common.{◌≡◌, take}
use Rattle.write_plans.specs.Told.{changed_of}
use Rattle.write_plans.proofs.told.changed_tables.Given as goal

abbrev pub invariant-loop-number : goal.invariant-loop-number
invariant-loop-number l = l.changed ≡ changed_of l.made (take l.number-index l.numbers)
