use Rattle.op_key_join.proofs.KeptRowLemmas.{rows_alone_stay, deleted_rows_go}
use Rattle.op_key_join.proofs.laws.rows_alone_are_kept.Goals as goal

pub returns-clause-alone : goal.returns-clause-alone
returns-clause-alone c = rows_alone_stay

pub returns-clause-deleted : goal.returns-clause-deleted
returns-clause-deleted c = deleted_rows_go
