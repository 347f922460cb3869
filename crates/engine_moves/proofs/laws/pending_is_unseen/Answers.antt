use Rattle.engine_moves.proofs.ActLaws.{unseen}
use Rattle.engine_moves.proofs.laws.pending_is_unseen.Goals as goal

pub returns : goal.returns
returns c = unseen
