use Rattle.std.proofs.Common.{◌≡◌, take}
use Rattle.row_store.specs.inner.RowsLeft.{AreLeft, passed}
use Rattle.pair_rows.specs.inner.Changed.{changed_in}
use Rattle.pair_rows.proofs.changed.changed_ids.Given as goal

abbrev pub invariant-loop-row : goal.invariant-loop-row
invariant-loop-row l = record {
  left : AreLeft l.new.rows l.row-iterator;
  ids : l.ids ≡ changed_in l.old.rows (take (passed l.new.rows l.row-iterator) l.new.rows);
}
