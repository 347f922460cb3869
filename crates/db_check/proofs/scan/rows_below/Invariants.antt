use Rattle.std.proofs.Common.{◌≡◌}
use Rattle.db_check.specs.inner.Tests.{rows_below}
use Rattle.db_check.proofs.scan.rows_below.Given as goal

abbrev pub invariant-loop-row : goal.invariant-loop-row
invariant-loop-row l = rows_below l.next l.row-iterator ≡ rows_below l.next l.table.rows
