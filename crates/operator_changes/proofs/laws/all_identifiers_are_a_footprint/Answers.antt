use Rattle.operator_changes.specs.Calls.{toward}
use Rattle.operator_changes.proofs.FootLemmas.{toward_laws}
use Rattle.operator_changes.proofs.WholeLemmas.{whole_footprint}
use Rattle.operator_changes.proofs.laws.all_identifiers_are_a_footprint.Goals as goal

pub returns : goal.returns
returns g c operator backward = whole_footprint (toward backward (g.O.Operator.meaning operator)) (toward_laws backward (g.O.Operator.meaning operator) (g.met.O.Operator.laws operator))
