use Rattle.std.proofs.Common.{◌≡◌, length, drop}
use Rattle.row_store.specs.inner.RowsLeft.{AreFirst}
use Rattle.op_law.specs.Identifiers.{ids_in}
use Rattle.pair_rows.proofs.side_reading.put_rows.Given as goal

abbrev pub invariant-loop-row : goal.invariant-loop-row
invariant-loop-row l = record {
  first : AreFirst l.table.rows l.row-iterator.iter;
  ids : l.ids ≡ ids_in (drop (length l.row-iterator.iter) l.table.rows) l.fn.ids;
}
