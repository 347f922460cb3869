use Rattle.version_model.proofs.StillLemmas.{write_still}
use Rattle.version_model.proofs.laws.writes_of_the_same_are_still.Goals as goal

pub returns : goal.returns
returns g c es s w t sound = write_still g.O.Operator.meaning g.met.O.Operator.laws es s sound w t
