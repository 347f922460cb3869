use Rattle.std.proofs.Common.{◌≡◌}
use Rattle.db_check.specs.inner.Tests.{pairs_below}
use Rattle.db_check.proofs.scan.pairs_below.Given as goal

abbrev pub invariant-loop-p : goal.invariant-loop-p
invariant-loop-p l = pairs_below l.next l.memory.entries ≡ pairs_below l.next l.left
