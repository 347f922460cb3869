use Rattle.std.proofs.Common.{◌≡◌, take}
use Rattle.row_store.specs.inner.RowsLeft.{AreLeft, passed}
use Rattle.pair_rows.specs.Stays.{staying}
use Rattle.pair_rows.specs.Halves.{pick_of}
use Rattle.pair_rows.proofs.stays.staying.Given as goal

abbrev pub invariant-loop-row : goal.invariant-loop-row
invariant-loop-row l = record {
  left : AreLeft l.rows.rows l.row-iterator;
  made : l.made.rows ≡ staying (pick_of l.half) l.old.entries l.new.entries (take (passed l.rows.rows l.row-iterator) l.rows.rows);
}
