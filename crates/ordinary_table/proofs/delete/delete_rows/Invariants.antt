use Rattle.std.proofs.Common.{◌≡◌, ◌+◌, ◌≤◌, length, take}
use Rattle.row_store.specs.inner.RowsLeft.{AreLeft, passed}
use Rattle.ordinary_table.specs.Shown.{condition_of}
use Rattle.ordinary_table.specs.inner.Told.{chosen_changes, gone}
use Rattle.ordinary_table.proofs.delete.delete_rows.Given as goal

abbrev pub invariant-loop-row : goal.invariant-loop-row
invariant-loop-row g l = record {
  left : AreLeft l.table.rows l.row-iterator;
  told : l.changes ≡ chosen_changes (condition_of l.filter) gone (take (passed l.table.rows l.row-iterator) l.table.rows);
  steps : l.steps + length l.row-iterator ≤ l.fn.steps + length l.table.rows;
}
