use Rattle.op_rows.specs.inner.RowwiseAt.{at_each}
use Rattle.op_rows.specs.inner.RowwiseLaws.{rowwise_laws}
use Rattle.op_rows.proofs.laws.rowwise_keeps_the_laws.Goals as goal

pub returns-clause-laws : goal.returns-clause-laws
returns-clause-laws g c operator = rowwise_laws (g.R.RowOperator.row_meaning operator) (g.met.R.RowOperator.row_laws operator)

pub returns-clause-each : goal.returns-clause-each
returns-clause-each g c operator = at_each (g.R.RowOperator.row_meaning operator) (g.met.R.RowOperator.row_laws operator)
