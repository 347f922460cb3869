use Rattle.std.proofs.Common.{◌≡◌, drop}
use Rattle.op_rows.specs.Cells.{table_from}
use Rattle.op_tables.proofs.over.is_table_over.Given as goal

abbrev pub invariant-loop-id : goal.invariant-loop-id
invariant-loop-id g l = record {
  to : table_from (drop l.id-index l.ids) (g.M.MakesRow.made l.each) ≡ l.left → table_from l.ids (g.M.MakesRow.made l.each) ≡ l.table.rows;
  from : table_from l.ids (g.M.MakesRow.made l.each) ≡ l.table.rows → table_from (drop l.id-index l.ids) (g.M.MakesRow.made l.each) ≡ l.left;
}
