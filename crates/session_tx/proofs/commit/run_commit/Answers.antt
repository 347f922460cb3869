-- What was run is taken back after an error.
use Rattle.session_tx.proofs.CommitLemmas.{answered, is_run, many_taken}
use Rattle.session_tx.proofs.commit.run_commit.Goals as goal

pub take_back_all-requires : goal.take_back_all-requires
take_back_all-requires g c =
    let here = c.requires in
    many_taken (g.E.Executor.stands c.run_all.new.at) g.E.Executor.means c.writes.result.now here.0 c.run_all.new.dones c.in-Err.fault c.len.result c.len.ensures (c.in-Err.ensures here.0 here.1)

pub returns-in-Ok : goal.returns-in-Ok
returns-in-Ok g c = λ s here.
    is_run (g.E.Executor.stands c.run_all.new.at) g.E.Executor.means c.args.transaction.now s c.run_all.new.dones c.reads.result.now c.writes.result.now c.reads.ensures c.writes.ensures (c.in_default.ensures s here) (c.in-Ok.ensures s here)

pub returns-in-Err : goal.returns-in-Err
returns-in-Err g c = λ s here.
    answered (g.E.Executor.stands c.run_all.new.at) (g.E.Executor.stands c.take_back_all.new.at) g.E.Executor.means c.args.transaction.now s c.run_all.new.dones c.len.result c.len.ensures c.take_back_all.ensures c.reads.result.now c.writes.result.now c.in-Err.fault c.refused.result c.reads.ensures c.writes.ensures c.refused.ensures (c.in_default.ensures s here) (c.in-Err.ensures s here)
