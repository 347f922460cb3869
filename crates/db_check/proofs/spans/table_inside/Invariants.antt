use Rattle.std.proofs.Common.{◌≡◌, take}
use Rattle.row_store.specs.inner.RowsLeft.{AreLeft, passed}
use Rattle.op_law.specs.Local.{rows_only}
use Rattle.db_check.specs.inner.Spans.{in_span}
use Rattle.db_check.proofs.spans.table_inside.Given as goal

abbrev pub invariant-loop-row : goal.invariant-loop-row
invariant-loop-row l = record {
  left : AreLeft l.table.rows l.row-iterator;
  made : l.made.rows ≡ rows_only (in_span l.span) (take (passed l.table.rows l.row-iterator) l.table.rows);
}
