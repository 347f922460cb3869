use Rattle.session_tx.specs.Commits.{TakenFrom}
use Rattle.session_tx.proofs.running.take_back_all.Given as goal

abbrev pub invariant-loop : goal.invariant-loop
invariant-loop g l = TakenFrom (g.E.Executor.stands l.fn.at) (g.E.Executor.stands l.at) l.fn.count l.counter
