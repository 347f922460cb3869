use Rattle.op_build.proofs.Placed.{left_out-first}
use Rattle.op_build.proofs.laws.first_missing_name_is_refused.Goals as goal

pub returns : goal.returns
returns c = left_out-first
