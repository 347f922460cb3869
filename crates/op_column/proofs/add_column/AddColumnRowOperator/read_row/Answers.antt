use Rattle.std.proofs.Common.{subst}
use Rattle.expr_lang.specs.Terms.{expr_term}
use Rattle.op_rows.specs.declared.near_side.NearSide.{NearSide}
use Rattle.op_rows.specs.NearSides.{seen_from}
use Rattle.op_rows.specs.RowCalls.{StoredRows}
use Rattle.op_column.specs.AddColumn.{add_column}
use Rattle.op_column.proofs.AddColumnLemmas.{may_take}
use Rattle.op_column.proofs.add_column.AddColumnRowOperator.read_row.Goals as goal

pub with_kept-requires : goal.with_kept-requires
with_kept-requires g c =
    let it = add_column c.args.self.now.place (expr_term c.args.self.now.value) in
    may_take c.args.self.now.place (expr_term c.args.self.now.value) c.args.near.now c.args.aux.now
    (subst (λ (side : NearSide). StoredRows (seen_from side it) c.args.near.now c.args.aux.now) c.in-Source.is c.requires)
