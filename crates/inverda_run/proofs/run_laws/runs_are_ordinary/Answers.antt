use Rattle.inverda_run.proofs.ScriptLawLemmas.{runs_ordinary, runs_stay_kept}
use Rattle.inverda_run.proofs.run_laws.runs_are_ordinary.Goals as goal

pub returns-clause-kept : goal.returns-clause-kept
returns-clause-kept c = runs_stay_kept c.statements_keep_states.ensures.empty c.statements_keep_states.ensures.loaded c.scripts_are_ordinary.ensures.kept

pub returns-clause-ordinary : goal.returns-clause-ordinary
returns-clause-ordinary c = runs_ordinary c.statements_keep_states.ensures.empty c.statements_keep_states.ensures.loaded c.scripts_are_ordinary.ensures.ordinary
