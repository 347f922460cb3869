use Rattle.op_law.specs.Meaning.{exchanged}
use Rattle.op_law.specs.Calls.{seen}
use Rattle.op_rows.specs.RowMeaning.{flip_row}
use Rattle.op_rows.proofs.PremiseLemmas.{may_rows}
use Rattle.op_rows.proofs.rowwise.RowwiseOperator.backward.Goals as goal

pub map_tables-requires : goal.map_tables-requires
map_tables-requires g c = may_rows (flip_row (g.R.RowOperator.row_meaning c.args.self.now.inner)) (g.met.R.RowOperator.row_laws c.args.self.now.inner).1 c.args.near.now (exchanged (seen c.args.old.now)) _ c.requires
