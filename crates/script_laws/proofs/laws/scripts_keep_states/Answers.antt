use Rattle.script_laws.proofs.EventLemmas.{statements_keep}
use Rattle.script_laws.proofs.ScriptLemmas.{scripts_keep}
use Rattle.script_laws.proofs.laws.scripts_keep_states.Goals as goal

pub returns-clause-one : goal.returns-clause-one
returns-clause-one c = statements_keep c.statements_keep_states.ensures.one c.each_write_is_ordinary.ensures.in_full

pub returns-clause-all : goal.returns-clause-all
returns-clause-all c = scripts_keep (statements_keep c.statements_keep_states.ensures.one c.each_write_is_ordinary.ensures.in_full)
