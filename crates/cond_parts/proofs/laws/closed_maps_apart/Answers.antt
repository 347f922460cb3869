use Rattle.cond_parts.proofs.BackwardLaws.{backward_maps_apart}
use Rattle.cond_parts.proofs.ForwardLaws.{forward_maps_apart}
use Rattle.cond_parts.proofs.laws.closed_maps_apart.Goals as goal

pub returns-clause-forward : goal.returns-clause-forward
returns-clause-forward c = forward_maps_apart

pub returns-clause-backward : goal.returns-clause-backward
returns-clause-backward c = backward_maps_apart
