use Rattle.std.proofs.Common.{◌≡◌, take}
use Rattle.row_store.specs.Rows.{row_of}
use Rattle.op_rows.specs.Cells.{table_from}
use Rattle.operator_changes.specs.Pairs.{side_at, table_at}
use Rattle.operator_changes.proofs.part.read_table.Given as goal

abbrev pub invariant-loop-id : goal.invariant-loop-id
invariant-loop-id g l = record {
  rows : l.table.rows ≡ table_from (take l.id-index l.ids) (row_of (table_at (side_at l.target (g.V.PairRead.pair l.fn.old)) l.which));
  same : g.V.PairRead.pair l.old ≡ g.V.PairRead.pair l.fn.old;
}
