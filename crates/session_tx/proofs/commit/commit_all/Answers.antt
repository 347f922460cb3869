-- What was run is settled.
use Rattle.session_tx.proofs.CommitLemmas.{is_committed, same_error}
use Rattle.session_tx.proofs.commit.commit_all.Goals as goal

pub returns-in-Ok : goal.returns-in-Ok
returns-in-Ok g c = λ s here idle.
    is_committed (g.E.Executor.stands c.run_commit.new.at) (g.E.Executor.stands c.settle.new.self) g.E.Executor.means c.args.transaction.now s c.in-Ok.dones (c.in-Ok.ensures s here) c.settle.ensures

pub returns-in-Err : goal.returns-in-Err
returns-in-Err g c = λ s here idle.
    same_error (g.E.Executor.stands c.run_commit.new.at) g.E.Executor.means c.args.transaction.now s c.in-Err.fault (c.in-Err.ensures s here)
