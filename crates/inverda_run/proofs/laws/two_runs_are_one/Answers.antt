use Rattle.inverda_run.proofs.DumpLemmas.{each_state_has_a_dump, loads_dumped, one_start}
use Rattle.inverda_run.proofs.TwoRunLemmas.{begins_again, runs_are_one, two_runs}
use Rattle.inverda_run.proofs.laws.two_runs_are_one.Goals as goal

pub returns-clause-dump : goal.returns-clause-dump
returns-clause-dump c = each_state_has_a_dump

pub returns-clause-start : goal.returns-clause-start
returns-clause-start c = one_start c.dumps_are_of_one_run.ensures

pub returns-clause-loads : goal.returns-clause-loads
returns-clause-loads c = loads_dumped (one_start c.dumps_are_of_one_run.ensures)

pub returns-clause-runs : goal.returns-clause-runs
returns-clause-runs c = two_runs

pub returns-clause-again : goal.returns-clause-again
returns-clause-again c = begins_again c.watches_are_beside.ensures.stands c.watches_are_beside.ensures.unwatched c.named_statements_need_no_session.ensures

pub returns-clause-one : goal.returns-clause-one
returns-clause-one c = runs_are_one c.watches_are_beside.ensures.stands c.watches_are_beside.ensures.unwatched (loads_dumped (one_start c.dumps_are_of_one_run.ensures)) c.named_statements_need_no_session.ensures
