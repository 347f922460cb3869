use Rattle.inverda_run.proofs.ScriptLawLemmas.{said_runs}
use Rattle.inverda_run.proofs.run_laws.said_runs_are_one.Goals as goal

pub returns : goal.returns
returns c = said_runs c.two_runs_are_one.ensures.loads c.said_scripts_need_no_session.ensures
