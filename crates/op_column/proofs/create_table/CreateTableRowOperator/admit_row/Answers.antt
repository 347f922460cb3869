use Rattle.std.proofs.Common.{◌≡◌, length, Some, arith, sym, subst}
use Rattle.op_rows.specs.declared.near_side.NearSide.{NearSide}
use Rattle.op_rows.specs.NearSides.{seen_from}
use Rattle.op_rows.specs.RowCalls.{AdmitsRows}
use Rattle.op_column.specs.CreateTable.{create_table}
use Rattle.op_column.proofs.TableLemmas.{admits_none}
use Rattle.op_column.proofs.create_table.CreateTableRowOperator.admit_row.Goals as goal

pub returns-in-Source : goal.returns-in-Source
returns-in-Source g c =
    let none : length c.args.aux.now ≡ 0 = omega (arith, c.len.ensures, c.if-len-ne0.false) in
    subst (λ (side : NearSide). AdmitsRows (seen_from side create_table) c.args._near.now c.args.aux.now (Some c.one.result)) (sym c.in-Source.is)
    (admits_none c.args._near.now c.one.result c.args.aux.now c.one.ensures none)
