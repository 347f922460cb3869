use Rattle.std.proofs.Common.{◌≡◌}
use Rattle.db_check.specs.inner.Tests.{rows_wide}
use Rattle.db_check.proofs.scan.rows_wide.Given as goal

abbrev pub invariant-loop-row : goal.invariant-loop-row
invariant-loop-row l = rows_wide l.width l.row-iterator ≡ rows_wide l.width l.table.rows
