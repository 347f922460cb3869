use Rattle.std.proofs.Common.{◌≡◌, take}
use Rattle.op_rows.specs.Cells.{table_from}
use Rattle.op_tables.proofs.pass.table_over.Given as goal

abbrev pub invariant-loop-id : goal.invariant-loop-id
invariant-loop-id g l = l.table.rows ≡ table_from (take l.id-index l.ids) (g.M.MakesRow.made l.each)
