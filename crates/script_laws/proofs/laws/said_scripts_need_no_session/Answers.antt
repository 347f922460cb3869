use Rattle.script_laws.proofs.SaidLemmas.{said_need}
use Rattle.script_laws.proofs.laws.said_scripts_need_no_session.Goals as goal

pub returns : goal.returns
returns c = said_need c.said_statements_need_no_session.ensures
