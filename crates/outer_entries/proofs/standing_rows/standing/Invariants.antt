use Rattle.std.proofs.Common.{◌≡◌, take}
use Rattle.row_store.specs.inner.RowsLeft.{AreLeft, passed}
use Rattle.pair_rows.specs.Halves.{pick_of}
use Rattle.outer_law.specs.Placed.{standing}
use Rattle.outer_entries.proofs.standing_rows.standing.Given as goal

abbrev pub invariant-loop-row : goal.invariant-loop-row
invariant-loop-row l = record {
  left : AreLeft l.rows.rows l.row-iterator;
  made : l.made.rows ≡ standing (pick_of l.half) l.memory.entries (take (passed l.rows.rows l.row-iterator) l.rows.rows);
}
