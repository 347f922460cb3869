use Rattle.engine_core.proofs.MoveLemmas.{stores_targets}
use Rattle.engine_core.proofs.laws.moves_store_targets.Goals as goal

pub returns : goal.returns
returns c = stores_targets c.closing_is_right.ensures
