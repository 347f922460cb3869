use Rattle.watch_laws.proofs.ScriptLemmas.{are_ordinary, stay_kept}
use Rattle.watch_laws.proofs.laws.scripts_are_ordinary.Goals as goal

pub returns-clause-kept : goal.returns-clause-kept
returns-clause-kept c = stay_kept c.watches_are_beside.ensures.stands c.scripts_are_ordinary.ensures.kept

pub returns-clause-ordinary : goal.returns-clause-ordinary
returns-clause-ordinary c = are_ordinary c.watches_are_beside.ensures.stands c.scripts_are_ordinary.ensures.ordinary
