-- The runs are settled, with these counts.
use Rattle.std.proofs.Common.{refl}
use Rattle.engine_transactions.specs.declared.executing.Executing.{Executing}
use Rattle.engine_transactions.proofs.RunLemmas.{runs_settle}
use Rattle.engine_transactions.proofs.commit.settle_runs.Goals as goal

pub returns-clause-settles : goal.returns-clause-settles
returns-clause-settles c = λ t old runs run.
    let mid = c.settle.new.self in
    let new : Executing = record { sessions = c.put_counts.new.self; numbers = mid.numbers; unsettled = mid.unsettled } in
    runs_settle t old c.args.at.now runs run mid new c.args.held.counts c.settle.ensures c.put_counts.ensures.standing c.put_counts.ensures.engine refl refl
