use Rattle.fk_footprints.proofs.JoinForwardLaws.{closed_join}
use Rattle.fk_footprints.proofs.JoinBackwardLaws.{closed_join_back}
use Rattle.fk_footprints.proofs.laws.closed_is_footprint_of_join.Goals as goal

pub returns-clause-forward : goal.returns-clause-forward
returns-clause-forward c = closed_join

pub returns-clause-backward : goal.returns-clause-backward
returns-clause-backward c = closed_join_back
