use Rattle.op_law.specs.Calls.{tables_of}
use Rattle.op_rows.proofs.PremiseLemmas.{stored_rows}
use Rattle.op_rows.proofs.rowwise.RowwiseOperator.read_target.Goals as goal

pub read_tables-requires : goal.read_tables-requires
read_tables-requires g c = stored_rows (g.R.RowOperator.row_meaning c.args.self.now.inner) (g.met.R.RowOperator.row_laws c.args.self.now.inner).0 c.args.source.now (tables_of c.args.aux.now) c.args._memory.now.entries c.requires
