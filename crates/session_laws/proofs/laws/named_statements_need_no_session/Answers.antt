use Rattle.session_laws.proofs.SessionLemmas.{need_no_session}
use Rattle.session_laws.proofs.laws.named_statements_need_no_session.Goals as goal

pub returns : goal.returns
returns c = need_no_session
