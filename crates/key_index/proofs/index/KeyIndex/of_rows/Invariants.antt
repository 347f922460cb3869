use Rattle.std.proofs.Common.{◌≡◌, ◌++◌}
use Rattle.key_index.proofs.index.KeyIndex.of_rows.Given as goal

abbrev pub invariant-loop-row : goal.invariant-loop-row
invariant-loop-row l = l.index.rows ++ l.row-iterator ≡ l.table.rows
