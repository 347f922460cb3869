use Rattle.op_column.proofs.ColumnKeptLemmas.{added_kept, added_filled, dropped_kept, dropped_filled, dropped_left_out}
use Rattle.op_column.proofs.laws.columns_are_kept.Goals as goal

pub returns-clause-added : goal.returns-clause-added
returns-clause-added c = added_kept

pub returns-clause-filled : goal.returns-clause-filled
returns-clause-filled c = added_filled

pub returns-clause-dropped : goal.returns-clause-dropped
returns-clause-dropped c = dropped_kept

pub returns-clause-dropped_filled : goal.returns-clause-dropped_filled
returns-clause-dropped_filled c = dropped_filled

pub returns-clause-dropped_left_out : goal.returns-clause-dropped_left_out
returns-clause-dropped_left_out c = dropped_left_out
