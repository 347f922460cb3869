use Rattle.std.proofs.Common.{subst}
use Rattle.expr_lang.specs.Terms.{expr_term}
use Rattle.op_rows.specs.declared.near_side.NearSide.{NearSide}
use Rattle.op_rows.specs.NearSides.{seen_from}
use Rattle.op_rows.specs.RowCalls.{MayRows}
use Rattle.op_column.specs.AddColumn.{add_column}
use Rattle.op_column.proofs.AddColumnLemmas.{may_add}
use Rattle.op_column.proofs.add_column.AddColumnRowOperator.map_row.Goals as goal

pub with_new-requires : goal.with_new-requires
with_new-requires g c =
    let it = add_column c.args.self.now.place (expr_term c.args.self.now.value) in
    may_add c.args.self.now.place (expr_term c.args.self.now.value) c.args.near.now c.args.old.near.now c.args.old.far.now
    (subst (λ (side : NearSide). MayRows (seen_from side it) c.args.near.now c.args.old.near.now c.args.old.far.now) c.in-Source.is c.requires)
