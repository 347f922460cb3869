use Rattle.session_laws.proofs.UseLemmas.{uses_are_own}
use Rattle.session_laws.proofs.laws.uses_are_each_sessions_own.Goals as goal

pub returns : goal.returns
returns c = uses_are_own
