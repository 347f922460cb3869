use Rattle.engine_core.proofs.MoveLemmas.{restores}
use Rattle.engine_core.proofs.laws.moves_restore.Goals as goal

pub returns : goal.returns
returns c = restores c.states_are_stored_once.ensures
