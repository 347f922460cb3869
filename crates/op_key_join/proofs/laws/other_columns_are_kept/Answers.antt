use Rattle.op_key_join.proofs.KeptRowLemmas.{other_columns_kept, other_columns_null}
use Rattle.op_key_join.proofs.laws.other_columns_are_kept.Goals as goal

pub returns-clause-kept : goal.returns-clause-kept
returns-clause-kept c = other_columns_kept

pub returns-clause-null : goal.returns-clause-null
returns-clause-null c = other_columns_null
