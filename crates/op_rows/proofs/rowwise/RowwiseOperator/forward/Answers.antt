use Rattle.op_law.specs.Calls.{seen}
use Rattle.op_rows.proofs.PremiseLemmas.{may_rows}
use Rattle.op_rows.proofs.rowwise.RowwiseOperator.forward.Goals as goal

pub map_tables-requires : goal.map_tables-requires
map_tables-requires g c = may_rows (g.R.RowOperator.row_meaning c.args.self.now.inner) (g.met.R.RowOperator.row_laws c.args.self.now.inner).0 c.args.near.now (seen c.args.old.now) _ c.requires
