use Rattle.op_build.proofs.RefusedForms.{caused, first_failed}
use Rattle.op_build.proofs.laws.first_failed_check_refuses.Goals as goal

pub returns-clause-order : goal.returns-clause-order
returns-clause-order c = first_failed

pub returns-clause-causes : goal.returns-clause-causes
returns-clause-causes c = caused
