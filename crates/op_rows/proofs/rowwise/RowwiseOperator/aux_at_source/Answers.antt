use Rattle.op_law.specs.Calls.{seen}
use Rattle.op_rows.proofs.PremiseLemmas.{some_rows}
use Rattle.op_rows.proofs.rowwise.RowwiseOperator.aux_at_source.Goals as goal

pub keep_tables-requires : goal.keep_tables-requires
keep_tables-requires g c = some_rows (g.R.RowOperator.row_meaning c.args.self.now.inner) (g.met.R.RowOperator.row_laws c.args.self.now.inner).0 (seen c.args.pair.now) c.requires
