use Rattle.std.proofs.Common.{◌≡◌, ◌+◌, ◌*◌, ◌≤◌, length, take}
use Rattle.row_store.specs.inner.RowsLeft.{AreLeft, passed}
use Rattle.ordinary_table.specs.Shown.{condition_of}
use Rattle.ordinary_table.specs.Written.{sets_of}
use Rattle.ordinary_table.specs.inner.Told.{chosen_changes, set_to}
use Rattle.ordinary_table.proofs.update.update_rows.Given as goal

abbrev pub invariant-loop-row : goal.invariant-loop-row
invariant-loop-row g l = record {
  left : AreLeft l.table.rows l.row-iterator;
  told : l.changes ≡ chosen_changes (condition_of l.filter) (set_to (sets_of l.sets)) (take (passed l.table.rows l.row-iterator) l.table.rows);
  steps : l.steps ≤ l.fn.steps + passed l.table.rows l.row-iterator * (1 + length l.sets);
}
