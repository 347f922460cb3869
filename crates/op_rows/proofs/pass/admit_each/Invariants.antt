use Rattle.std.proofs.Common.{◌≡◌, ℕ, true, Some, take}
use Rattle.op_law.specs.Tables.{contents}
use Rattle.op_rows.specs.Cells.{cells_at, tables_from}
use Rattle.op_rows.specs.inner.CellLemmas.{has_id}
use Rattle.op_rows.specs.RowCalls.{AdmitsRows}
use Rattle.op_rows.specs.inner.Passes.{read_at}
use Rattle.op_rows.proofs.pass.admit_each.Given as goal

abbrev pub invariant-loop-id : goal.invariant-loop-id
invariant-loop-id g l =
    let r = g.A.AdmitsCells.row_meaning l.each in
    let near = g.A.AdmitsCells.near l.each in
    let aux = g.A.AdmitsCells.aux l.each in
    record {
      made : contents l.tables.items ≡ tables_from l.count (take l.id-index l.ids) (read_at r near aux);
      admits : (id : ℕ) → has_id (take l.id-index l.ids) id ≡ true → AdmitsRows r (cells_at near id) (cells_at aux id) (Some (read_at r near aux id));
    }
