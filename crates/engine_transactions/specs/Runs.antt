-- Runs that are still to be settled, and what inner calls do with them.
use Rattle.std.specs.Prelude.{◌≡◌, false, List, [], ◌∷◌, Option, Some, None, Result, Ok, Err, ⊤}
use Rattle.par_base.specs.Checked.{Checked}
use Rattle.par_base.specs.declared.fault.Fault.{Fault}
use Rattle.par_base.specs.declared.fault.Fault.TheVariants.{Refused, Memory as OutOfMemory}
use Rattle.par_base.specs.declared.refusal.Refusal.{Refusal}
use Rattle.par_base.specs.declared.refusal.Refusal.TheVariants.{NoTransaction}
use Rattle.statements.specs.Views.{StatementView}
use Rattle.version_graph.specs.Edges.{AreEdges}
use Rattle.layout_planner.specs.declared.planning.TableCount.{TableCount}
use Rattle.session_tx.specs.Commits.{after_runs, commit, results}
use Rattle.session_tx.specs.Meaning.{Ran}
use Rattle.session_tx.specs.Serial.{end_of}
use Rattle.session_tx.specs.declared.commit_fault.CommitFault.{CommitFault}
use Rattle.engine_state.specs.declared.reply.Reply.TheVariants.{Committed}
use Rattle.engine_state.specs.declared.reply.WriteReply.{WriteReply}
use Rattle.engine_sessions.specs.Accesses.{kept_behind}
use Rattle.engine_sessions.specs.Calls.{IsAnswer}
use Rattle.engine_sessions.specs.Standing.{Standing as SessionsStanding, kept_in, standing_of as standing_beside}
use Rattle.engine_sessions.specs.declared.answer.Answer.{Answer}
use Rattle.engine_sessions.specs.declared.answer.Answer.TheVariants.{Plain}
use Rattle.engine_transactions.specs.Act.{accesses_of, raised_all}
use Rattle.tx_history.specs.Refused.{refusal_of}
use Rattle.engine_transactions.specs.Calls.{executed, standing_in, IsIdle, IsSame, Keeps}
use Rattle.engine_transactions.specs.Executing.{Shows}
use Rattle.tx_history.specs.History.{history_of}
use Rattle.engine_transactions.specs.Changed.{with_writes}
use Rattle.engine_transactions.specs.Meaning.{any_changed, means}
use Rattle.tx_history.specs.Views.{OpenView, TransactionView}
use Rattle.engine_transactions.specs.Standing.{Standing}
use Rattle.engine_transactions.specs.declared.executing.Executing.{Executing}
use Rattle.engine_transactions.specs.declared.held.HeldRuns.{HeldRuns}
use Rattle.tx_history.specs.declared.table_read.TableRead.{TableRead}

-- runs in their order
abbrev pub Runs : Type 0
Runs = List (Ran SessionsStanding TableRead WriteReply)

-- a transaction that keeps this write alone
abbrev pub alone : StatementView → TransactionView
alone x = record { reads = []; writes = x ∷ [] }

-- THE WRITES OF A TRANSACTION WERE RUN, and aren't settled
pub record AreRun (t : TransactionView) (old now : Executing) (runs : Runs) : Type 0 where
  pub idle : IsIdle old
  pub edges : AreEdges (kept_in old.sessions).graph.edges
  pub commits : commit means (executed old) t ≡ Ok runs
  pub shows : Shows now (after_runs (executed old) runs)
  pub ends : standing_beside now.sessions ≡ end_of (standing_beside old.sessions) runs

-- where they lead once they are settled: they are one event, and these are the counts and the open transactions
abbrev pub settled_in : Standing → Runs → List TableCount → List OpenView → Standing
settled_in s runs counts opens = record {
  sessions = record (end_of s.sessions runs) { counts = counts };
  history = with_writes s.history s.sessions.laid.database (any_changed s.sessions runs);
  opens = opens;
}

-- ---- running

-- a write was run
pub record IsRunOne (x : StatementView) (old now : Executing) (reply : WriteReply) : Type 0 where
  pub ran : Ran SessionsStanding TableRead WriteReply
  pub meant : means (standing_beside old.sessions) x ≡ Ok ran
  pub gives : reply ≡ ran.done
  pub run : AreRun (alone x) old now (ran ∷ [])

-- or is refused as it means
abbrev pub RunsOne : StatementView → Executing → Executing → Result WriteReply (Fault Refusal) → Type 0
RunsOne x old now (Ok reply) = IsRunOne x old now reply
RunsOne x old now (Err (Refused refusal)) = means (standing_beside old.sessions) x ≡ Err refusal
RunsOne x old now (Err (OutOfMemory memory)) = ⊤

-- the writes of a transaction were run
pub record IsRunAll (t : TransactionView) (old now : Executing) (replies : List WriteReply) : Type 0 where
  pub runs : Runs
  pub gives : replies ≡ results runs
  pub run : AreRun t old now runs

-- or are refused as their commit is
abbrev pub RunsAll : TransactionView → Executing → Executing → Result (List WriteReply) (Fault CommitFault) → Type 0
RunsAll t old now (Ok replies) = IsRunAll t old now replies
RunsAll t old now (Err (Refused fault)) = commit means (executed old) t ≡ Err fault
RunsAll t old now (Err (OutOfMemory memory)) = ⊤

-- ---- holding

-- a write was run, and this is what is left to answer and to count
pub record IsHeldWrite (model : List OpenView → Checked (Answer × Standing)) (old now : Executing) (held : HeldRuns) : Type 0 where
  pub written : StatementView
  pub ran : Ran SessionsStanding TableRead WriteReply
  pub run : AreRun (alone written) old now (ran ∷ [])
  pub prints : IsAnswer held.answer
  pub acts : (opens : List OpenView) → model opens ≡ Ok (held.answer, settled_in (standing_in old opens) (ran ∷ []) held.counts opens)

-- or is refused as the model says, whatever transactions are open
abbrev pub HoldsWrite : (List OpenView → Checked (Answer × Standing)) → Executing → Executing → Result HeldRuns (Fault Refusal) → Type 0
HoldsWrite model old now (Ok held) = IsHeldWrite model old now held
HoldsWrite model old now (Err (Refused refusal)) = (opens : List OpenView) → model opens ≡ Err refusal
HoldsWrite model old now (Err (OutOfMemory memory)) = ⊤

-- the counts behind a commit
abbrev pub counts_after : SessionsStanding → TransactionView → Runs → List TableCount
counts_after s t runs = kept_behind false (end_of s runs).laid.database.graph.edges (raised_all s.counts (accesses_of s.laid.database t))

-- a transaction was run
pub record IsHeldCommit (t : TransactionView) (old now : Executing) (held : HeldRuns) : Type 0 where
  pub runs : Runs
  pub run : AreRun t old now runs
  pub answer : held.answer ≡ Plain (Committed (results runs))
  pub counts : held.counts ≡ counts_after (standing_beside old.sessions) t runs

-- why a commit is refused
pub record IsRefusedCommit (t : TransactionView) (old : Executing) (refusal : Refusal) : Type 0 where
  pub fault : CommitFault
  pub commits : commit means (executed old) t ≡ Err fault
  pub tells : refusal ≡ refusal_of t.reads fault

abbrev pub HoldsCommit : TransactionView → Executing → Executing → Result HeldRuns (Fault Refusal) → Type 0
HoldsCommit t old now (Ok held) = IsHeldCommit t old now held
HoldsCommit t old now (Err (Refused refusal)) = IsRefusedCommit t old refusal
HoldsCommit t old now (Err (OutOfMemory memory)) = ⊤

-- that of the open transaction at hand, where there is one
abbrev pub HoldsOpen : Option OpenView → Executing → Executing → Result HeldRuns (Fault Refusal) → Type 0
HoldsOpen (Some o) old now result = HoldsCommit o.transaction old now result
HoldsOpen None old now (Ok held) = ⊥
HoldsOpen None old now (Err (Refused refusal)) = refusal ≡ NoTransaction
HoldsOpen None old now (Err (OutOfMemory memory)) = ⊤

-- ---- afterwards

-- the runs are settled, with these counts
pub record AreSettled (old new : Executing) (runs : Runs) (counts : List TableCount) : Type 0 where
  pub sessions : standing_beside new.sessions ≡ record (end_of (standing_beside old.sessions) runs) { counts = counts }
  pub history : history_of new.numbers ≡ with_writes (history_of old.numbers) (standing_beside old.sessions).laid.database (any_changed (standing_beside old.sessions) runs)
  pub keeps : (x : StatementView) → Keeps x old new
  pub idle : IsIdle new

-- they are taken back
pub record AreBack (old new : Executing) : Type 0 where
  pub same : IsSame old new
  pub idle : IsIdle new

-- runs of some transaction from somewhere
abbrev pub HaveRun : Executing → Type 0
HaveRun now = (t : TransactionView) × ((old : Executing) × ((runs : Runs) × AreRun t old now runs))
