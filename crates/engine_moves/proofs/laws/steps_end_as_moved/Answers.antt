use Rattle.engine_moves.proofs.EndLemmas.{end_as_moved}
use Rattle.engine_moves.proofs.laws.steps_end_as_moved.Goals as goal

pub returns : goal.returns
returns c = end_as_moved c.closing_is_right.ensures c.steps_are_flips.ensures.arrive
