use Rattle.layout_planner.proofs.MoveLemmas.{move_cost, move_given, new}
use Rattle.layout_planner.proofs.laws.moves_have_costs.Goals as goal

pub returns : goal.returns
returns g c d graph layout valid name v w is own counts = (new d graph layout name v w is own valid, move_given d graph layout name v w is own valid, move_cost d graph layout name v w is own valid counts)
