use Rattle.session_laws.proofs.SaidLemmas.{said_need}
use Rattle.session_laws.proofs.laws.said_statements_need_no_session.Goals as goal

pub returns : goal.returns
returns c = said_need c.uses_are_each_sessions_own.ensures
