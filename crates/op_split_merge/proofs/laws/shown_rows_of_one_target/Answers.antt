use Rattle.op_split_merge.proofs.ShownLemmas.{one_target}
use Rattle.op_split_merge.proofs.laws.shown_rows_of_one_target.Goals as goal

pub returns : goal.returns
returns c = one_target
