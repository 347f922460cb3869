use Rattle.op_build.proofs.NameLists.{repeated-first}
use Rattle.op_build.proofs.laws.first_repeated_column_is_refused.Goals as goal

pub returns : goal.returns
returns c = repeated-first
