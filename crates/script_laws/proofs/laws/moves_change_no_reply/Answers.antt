use Rattle.script_laws.proofs.MoveLemmas.{same_replies}
use Rattle.script_laws.proofs.laws.moves_change_no_reply.Goals as goal

pub returns : goal.returns
returns c s layout pending statements = same_replies statements s layout pending
