use Rattle.fk_footprints.proofs.DecomposeForwardLaws.{closed_decompose}
use Rattle.fk_footprints.proofs.DecomposeBackwardLaws.{closed_decompose_back}
use Rattle.fk_footprints.proofs.laws.closed_is_footprint_of_decompose.Goals as goal

pub returns-clause-forward : goal.returns-clause-forward
returns-clause-forward c = closed_decompose

pub returns-clause-backward : goal.returns-clause-backward
returns-clause-backward c = closed_decompose_back
