use Rattle.std.proofs.Common.{◌≡◌, take}
use Rattle.row_store.specs.inner.RowsLeft.{AreLeft, passed}
use Rattle.pair_rows.specs.Given.{kept_in}
use Rattle.pair_rows.specs.inner.Knowing.{KnowsPairs}
use Rattle.pair_rows.proofs.unchanged.kept_in.Given as goal

abbrev pub invariant-loop-row : goal.invariant-loop-row
invariant-loop-row l = record {
  left : AreLeft l.near.rows l.row-iterator;
  entries : l.taken.entries ≡ kept_in l.old.rows.now.rows l.old.memory.now.entries (take (passed l.near.rows l.row-iterator) l.near.rows);
  knows : KnowsPairs l.taken;
}
