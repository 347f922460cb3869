use Rattle.inverda_run.proofs.finish.finish.Goals as goal

pub returns-in-Some-clause-finishes : goal.returns-in-Some-clause-finishes
returns-in-Some-clause-finishes g c = λ to there. rw c.in-Some.is (c.dump_to.ensures.dumps to there)
