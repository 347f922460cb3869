use Rattle.std.proofs.Common.{◌≡◌}
use Rattle.op_tables.specs.Wide.{are_wide}
use Rattle.op_tables.proofs.comparing.is_wide.Given as goal

abbrev pub invariant-loop-row : goal.invariant-loop-row
invariant-loop-row l = are_wide l.width l.row-iterator ≡ are_wide l.width l.table.rows
