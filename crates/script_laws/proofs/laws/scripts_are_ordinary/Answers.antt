use Rattle.script_laws.proofs.EventLemmas.{statements_ordinary}
use Rattle.script_laws.proofs.ScriptLemmas.{scripts_fit, scripts_ordinary, scripts_stay_kept}
use Rattle.script_laws.proofs.laws.scripts_are_ordinary.Goals as goal

pub returns-clause-fit : goal.returns-clause-fit
returns-clause-fit c = scripts_fit

pub returns-clause-one : goal.returns-clause-one
returns-clause-one c = statements_ordinary c.each_write_is_ordinary.ensures.in_session c.each_write_is_ordinary.ensures.in_full

pub returns-clause-kept : goal.returns-clause-kept
returns-clause-kept c = scripts_stay_kept c.scripts_keep_states.ensures.all

pub returns-clause-ordinary : goal.returns-clause-ordinary
returns-clause-ordinary c = scripts_ordinary (statements_ordinary c.each_write_is_ordinary.ensures.in_session c.each_write_is_ordinary.ensures.in_full) c.scripts_keep_states.ensures.all
