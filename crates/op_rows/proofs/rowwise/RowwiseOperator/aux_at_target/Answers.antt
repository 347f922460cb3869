use Rattle.op_law.specs.Meaning.{exchanged}
use Rattle.op_law.specs.Calls.{seen}
use Rattle.op_rows.specs.RowMeaning.{flip_row}
use Rattle.op_rows.proofs.PremiseLemmas.{some_rows}
use Rattle.op_rows.proofs.rowwise.RowwiseOperator.aux_at_target.Goals as goal

pub keep_tables-requires : goal.keep_tables-requires
keep_tables-requires g c = some_rows (flip_row (g.R.RowOperator.row_meaning c.args.self.now.inner)) (g.met.R.RowOperator.row_laws c.args.self.now.inner).1 (exchanged (seen c.args.pair.now)) c.requires
