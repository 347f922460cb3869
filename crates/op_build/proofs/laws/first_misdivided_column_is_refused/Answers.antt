use Rattle.op_build.proofs.Placed.{misdivided-first}
use Rattle.op_build.proofs.laws.first_misdivided_column_is_refused.Goals as goal

pub returns : goal.returns
returns c = misdivided-first
