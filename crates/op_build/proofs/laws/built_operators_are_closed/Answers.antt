use Rattle.op_build.proofs.BuiltLaws.{built_suits}
use Rattle.op_build.proofs.laws.built_operators_are_closed.Goals as goal

pub returns : goal.returns
returns c = λ set next text e is fits. (built_suits set next text e is).closed fits
