use Rattle.storage_law.proofs.FlipLemmas.{moves_stand}
use Rattle.storage_law.proofs.laws.moves_leave_the_state.Goals as goal

pub returns : goal.returns
returns g c reads es edges to valid_goal s n storage last valid st moves =
    moves_stand g.O.Operator.meaning g.met.O.Operator.laws reads c.moves_stay_valid.ensures.valid es edges to valid_goal s n storage last valid st moves
