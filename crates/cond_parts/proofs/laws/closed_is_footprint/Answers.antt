use Rattle.cond_parts.proofs.BackwardLaws.{closed_is_backward}
use Rattle.cond_parts.proofs.ForwardLaws.{closed_is_forward}
use Rattle.cond_parts.proofs.laws.closed_is_footprint.Goals as goal

pub returns-clause-forward : goal.returns-clause-forward
returns-clause-forward c = closed_is_forward

pub returns-clause-backward : goal.returns-clause-backward
returns-clause-backward c = closed_is_backward
