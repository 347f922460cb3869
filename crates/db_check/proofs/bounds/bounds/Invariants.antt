use Rattle.std.proofs.Common.{◌≡◌, ◌+◌, length}
use Rattle.db_check.proofs.bounds.bounds.Given as goal

abbrev pub invariant-loop-span : goal.invariant-loop-span
invariant-loop-span l = length l.made + 1 ≡ l._span
