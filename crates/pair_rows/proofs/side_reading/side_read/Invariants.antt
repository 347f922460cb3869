use Rattle.std.proofs.Common.{◌≡◌, take}
use Rattle.row_store.specs.Rows.{row_of}
use Rattle.op_rows.specs.Cells.{table_from}
use Rattle.row_parts.specs.RowCells.{or_else}
use Rattle.pair_rows.specs.Kept.{paired}
use Rattle.pair_rows.specs.Halves.{pick_of}
use Rattle.pair_rows.proofs.side_reading.side_read.Given as goal

abbrev pub invariant-loop-id : goal.invariant-loop-id
invariant-loop-id l = l.made.rows ≡ table_from (take l.id-index l.id-items) (λ id. or_else (row_of l.aux.rows id) (paired (pick_of l.fn.half) l.places l.target.rows l.fn.entries id))
