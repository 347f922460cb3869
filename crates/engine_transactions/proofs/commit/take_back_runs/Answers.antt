-- All runs are taken back.
use Rattle.std.proofs.Common.{◌≤◌, ℕ, length, List, sym, ap, subst}
use Rattle.engine_sessions.specs.WriteUndo.{Undo}
use Rattle.session_tx.specs.Calls.{HasRuns}
use Rattle.session_tx.specs.Commits.{taken_back_times}
use Rattle.session_tx.specs.Meaning.{Standing as Executed}
use Rattle.engine_sessions.specs.Standing.{Standing as SessionsStanding}
use Rattle.engine_transactions.specs.Executing.{Shows}
use Rattle.tx_history.specs.declared.table_read.TableRead.{TableRead}
use Rattle.engine_transactions.proofs.RunLemmas.{have_run_may, runs_go_back}
use Rattle.engine_transactions.proofs.commit.take_back_runs.Goals as goal

pub take_back_all-requires : goal.take_back_all-requires
take_back_all-requires c =
    let now = c.args.at.now in
    subst (λ (n : ℕ). HasRuns (λ (s : Executed SessionsStanding TableRead). Shows now s) n) (sym (ap (λ (us : List Undo). length us) c.as_slice-count.ensures.value)) (have_run_may now c.requires)

pub returns : goal.returns
returns c = λ t old runs run.
    let now = c.args.at.now in
    let new = c.take_back_all.new.at in
    let taken = subst (λ (n : ℕ). (s : Executed SessionsStanding TableRead) → Shows now s → n ≤ length s.unsettled → Shows new (taken_back_times n s)) (ap (λ (us : List Undo). length us) c.as_slice-count.ensures.value) c.take_back_all.ensures in
    runs_go_back t old now runs run new taken
