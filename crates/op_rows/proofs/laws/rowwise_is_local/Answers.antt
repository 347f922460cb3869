use Rattle.op_rows.specs.inner.RowwiseLocal.{rowwise_local}
use Rattle.op_rows.proofs.laws.rowwise_is_local.Goals as goal

pub returns : goal.returns
returns g c operator = rowwise_local (g.R.RowOperator.row_meaning operator) (g.met.R.RowOperator.row_laws operator)
