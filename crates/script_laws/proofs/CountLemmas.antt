-- What is counted behind each statement are tables that live.
use Rattle.std.specs.Prelude.{if◌then◌else◌, Option, Some, None, Result, Ok, Err}
use Rattle.std.proofs.Common.{◌≡◌, ℕ, List, [], ◌∷◌, Bool, true, false, refl}
use Rattle.par_base.specs.declared.refusal.Refusal.{Refusal}
use Rattle.par_base.specs.declared.refusal.Refusal.TheVariants.{ReadAfterWrite}
use Rattle.par_base.specs.Checked.{Checked, ◌then◌}
use Rattle.statements.specs.Views.{StatementView, CreateVersion, DropVersion, Insert, Import, Update, Delete, Select, Materialize, Step, ShowLayout, Use, Session, Advise, Watch, Unwatch, Begin, Commit, Rollback}
use Rattle.statements.specs.declared.statement.TableName.{TableName}
use Rattle.session_tx.specs.Commits.{read_fault, runs_of, unless}
use Rattle.session_tx.specs.Serial.{end_of}
use Rattle.session_tx.specs.declared.commit_fault.CommitFault.{CommitFault}
use Rattle.layout_planner.specs.declared.planning.TableCount.{TableCount}
use Rattle.engine_transactions.specs.Reply.{Reply}
use Rattle.engine_transactions.specs.Moving.{Moving}
use Rattle.engine_transactions.specs.Answer.{Answer}
use Rattle.engine_transactions.specs.EngineSessionsStanding.{Standing as SessionsStanding}
use Rattle.engine_transactions.specs.EngineSessionsAct.{act as act_beside, answer_of}
use Rattle.session_laws.specs.Sessions.{CountsStay, HasCounts}
use Rattle.session_laws.proofs.CountLaws.{AreRaised, counted_raised, living_counted, raised_more}
use Rattle.tx_history.specs.declared.table_read.TableRead.{TableRead}
use Rattle.tx_history.specs.Views.{OpenView, TransactionView}
use Rattle.engine_transactions.specs.Standing.{Standing}
use Rattle.engine_transactions.specs.Meaning.{executing, means}
use Rattle.engine_transactions.specs.Act.{accesses_of, act, at_hand, at_once, begun_by, committed, committed_as, history_behind, kept_by, noted, raised_all, rolled_back, selected_by, written_by}
use Rattle.engine_transactions.specs.Replies.{next_state, state_after}
use Rattle.script_laws.specs.Kept.{ScriptsKeepCounts}
use Rattle.script_laws.proofs.RunLemmas.{Run}

all_raised : (ts : List ℕ) (counts : List TableCount) → AreRaised counts → AreRaised (raised_all counts ts)
all_raised [] counts are = are
all_raised (t ∷ ts) counts are = all_raised ts _ (raised_more counts t are)

abbrev with_history : Standing → StatementView → Checked (Answer × SessionsStanding) → Checked (Answer × Standing)
with_history s x m = m then λ answer. Ok (answer.0, record s { sessions = answer.1; history = history_behind s x answer.1 })

module _ (law : CountsStay) (s : Standing) (has : HasCounts s.sessions) where
  counts_once : (x : StatementView) (m : Checked (Answer × SessionsStanding)) → act_beside s.sessions x ≡ m → HasCounts (next_state s (with_history s x m)).sessions
  counts_once x (Ok answer) is = law s.sessions x answer has is
  counts_once x (Err refusal) is = has

  once : (x : StatementView) → HasCounts (next_state s (at_once s x)).sessions
  once x = counts_once x (act_beside s.sessions x) refl

  begun : (o : Option OpenView) → HasCounts (next_state s (begun_by s o)).sessions
  begun None = has
  begun (Some o) = has

  rolled : (o : Option OpenView) → HasCounts (next_state s (rolled_back s o)).sessions
  rolled None = has
  rolled (Some o) = has

  read_noted : (t : TransactionView) (read : Option TableRead) → HasCounts (noted s t read).sessions
  read_noted t None = has
  read_noted t (Some read) = has

  read : (t : TransactionView) (csv : Bool) (r : Option TableRead) (written : Bool) (m : Checked (Reply × Moving))
      → HasCounts (next_state s (if written then Err ReadAfterWrite else (m then λ answer. Ok (answer_of csv answer.0, noted s t r)))).sessions
  read t csv r true m = has
  read t csv r false (Ok answer) = read_noted t r
  read t csv r false (Err refusal) = has

  selected : (o : Option OpenView) (name : TableName) (csv : Bool) (x : StatementView) → HasCounts (next_state s (selected_by s o name csv x)).sessions
  selected None name csv x = once x
  selected (Some o) name csv x = read o.transaction csv _ _ _

  kept : (t : TransactionView) (version : Option (List ℕ)) (x : StatementView) → HasCounts (next_state s (kept_by s t version x)).sessions
  kept t None x = has
  kept t (Some version) x = has

  written : (o : Option OpenView) (name : TableName) (x : StatementView) → HasCounts (next_state s (written_by s o name x)).sessions
  written None name x = once x
  written (Some o) name x = kept o.transaction _ _

  commits : (t : TransactionView) (fault : Option CommitFault) (r : Result (List Run) Refusal) → HasCounts (next_state s (committed_as s t (unless fault r))).sessions
  commits t (Some fault) r = has
  commits t None (Err refusal) = has
  commits t None (Ok runs) =
      living_counted (end_of s.sessions runs).laid.database.graph.edges (raised_all s.sessions.counts (accesses_of s.sessions.laid.database t))
      (all_raised (accesses_of s.sessions.laid.database t) s.sessions.counts (counted_raised s.sessions.laid.database.graph.edges s.sessions.counts has))

  commit : (o : Option OpenView) → HasCounts (next_state s (committed s o)).sessions
  commit None = has
  commit (Some o) = commits o.transaction (read_fault (executing s) o.transaction.reads) (runs_of means s.sessions o.transaction.writes)

-- each statement
next_counts : CountsStay → (s : Standing) (x : StatementView) → HasCounts s.sessions → HasCounts (next_state s (act s x)).sessions
next_counts law s (CreateVersion name from operators) has = once law s has (CreateVersion name from operators)
next_counts law s (DropVersion name) has = once law s has (DropVersion name)
next_counts law s (Insert name rows) has = written law s has (at_hand s) name (Insert name rows)
next_counts law s (Import name text) has = written law s has (at_hand s) name (Import name text)
next_counts law s (Update name assignments filter) has = written law s has (at_hand s) name (Update name assignments filter)
next_counts law s (Delete name filter) has = written law s has (at_hand s) name (Delete name filter)
next_counts law s (Select name items filter csv) has = selected law s has (at_hand s) name csv (Select name items filter csv)
next_counts law s (Materialize named in_steps) has = once law s has (Materialize named in_steps)
next_counts law s Step has = once law s has Step
next_counts law s ShowLayout has = once law s has ShowLayout
next_counts law s (Use name) has = once law s has (Use name)
next_counts law s (Session number) has = once law s has (Session number)
next_counts law s (Advise name) has = once law s has (Advise name)
next_counts law s (Watch name) has = once law s has (Watch name)
next_counts law s (Unwatch number) has = once law s has (Unwatch number)
next_counts law s Begin has = begun law s has (at_hand s)
next_counts law s Commit has = commit law s has (at_hand s)
next_counts law s Rollback has = rolled law s has (at_hand s)

pub scripts_keep_counts : CountsStay → ScriptsKeepCounts
unfolding state_after
scripts_keep_counts law s [] has = has
scripts_keep_counts law s (x ∷ xs) has = scripts_keep_counts law (next_state s (act s x)) xs (next_counts law s x has)
