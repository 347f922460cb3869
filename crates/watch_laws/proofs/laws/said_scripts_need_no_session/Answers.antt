use Rattle.watch_laws.proofs.ScriptLemmas.{said_need}
use Rattle.watch_laws.proofs.laws.said_scripts_need_no_session.Goals as goal

pub returns : goal.returns
returns c = said_need c.watches_are_beside.ensures.stands c.watches_are_beside.ensures.unwatched c.said_scripts_need_no_session.ensures
