use Rattle.std.proofs.Common.{◌≡◌, take}
use Rattle.row_store.specs.inner.RowsLeft.{AreLeft, passed}
use Rattle.pair_rows.specs.inner.Changed.{ids_of}
use Rattle.pair_rows.proofs.changed.ids_of.Given as goal

abbrev pub invariant-loop-row : goal.invariant-loop-row
invariant-loop-row l = record {
  left : AreLeft l.table.rows l.row-iterator;
  ids : l.ids ≡ ids_of (take (passed l.table.rows l.row-iterator) l.table.rows);
}
