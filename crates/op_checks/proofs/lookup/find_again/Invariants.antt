use Rattle.std.proofs.Common.{◌≡◌, ◌++◌, drop, take}
use Rattle.op_checks.specs.NameChecks.{repeated}
use Rattle.op_checks.proofs.lookup.find_again.Given as goal

abbrev pub invariant-loop-at : goal.invariant-loop-at
invariant-loop-at l = repeated (l.known ++ take l.at l.names) (drop l.at l.names) ≡ repeated l.known l.names
