use Rattle.std.proofs.Common.{subst, ap, ◌∙◌}
use Rattle.std.specs.Prelude.{IfOk}
use Rattle.op_rows.specs.declared.near_side.NearSide.{NearSide}
use Rattle.op_rows.specs.NearSides.{seen_from, seen_far}
use Rattle.op_rows.specs.RowMeaning.{RowMeaning}
use Rattle.op_rows.specs.RowCalls.{AdmitsRows}
use Rattle.op_rows.proofs.flip_row.FlipRowRowOperator.admit_row.Goals as goal

pub returns : goal.returns
returns g c =
    let r = g.R.RowOperator.row_meaning c.args.self.now.inner in
    subst (λ (seen : RowMeaning). IfOk c.admit_row.result (λ far. AdmitsRows seen c.args.near.now c.args.aux.now far))
    (ap (λ (side : NearSide). seen_from side r) c.far.ensures ∙ seen_far c.args.side r)
    c.admit_row.ensures
