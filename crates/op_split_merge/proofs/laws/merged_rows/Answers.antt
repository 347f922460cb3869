use Rattle.op_split_merge.proofs.ShownLemmas.{new_rows, twins, one_written}
use Rattle.op_split_merge.proofs.laws.merged_rows.Goals as goal

pub returns-clause-new : goal.returns-clause-new
returns-clause-new c = new_rows

pub returns-clause-twins : goal.returns-clause-twins
returns-clause-twins c = twins

pub returns-clause-back : goal.returns-clause-back
returns-clause-back c = one_written
