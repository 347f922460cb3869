-- Where a statement that writes rows ends.
use Rattle.std.specs.Prelude.{Option, Some, None, Result, Ok, Err}
use Rattle.std.proofs.Common.{◌≡◌, ℕ, true, List, [], ◌∷◌, refl, subst}
use Rattle.statements.specs.Views.{StatementView, CreateVersion, DropVersion, Insert, Import, Update, Delete, Select, Materialize, Step, ShowLayout, Use, Session, Advise, Watch, Unwatch, Begin, Commit, Rollback}
use Rattle.statements.specs.declared.statement.TableName.{TableName}
use Rattle.session_tx.specs.Commits.{commit, results}
use Rattle.session_tx.specs.Meaning.{Ran}
use Rattle.session_tx.specs.Serial.{end_of}
use Rattle.session_tx.specs.declared.commit_fault.CommitFault.{CommitFault}
use Rattle.engine_state.specs.AnyDatabase.{AnyDatabase}
use Rattle.engine_state.specs.declared.reply.Reply.TheVariants.{Committed, Kept}
use Rattle.engine_state.specs.declared.reply.WriteReply.{WriteReply}
use Rattle.engine_transactions.proofs.ChainLaws.{ok_is}
use Rattle.engine_transactions.specs.InFull.{in_full}
use Rattle.engine_transactions.specs.EngineSessionsStanding.{Standing as SessionsStanding, used_by}
use Rattle.engine_transactions.specs.Answer.{Answer}
use Rattle.engine_transactions.specs.Answer.TheVariants.{Plain}
use Rattle.engine_transactions.specs.Act.{act, at_hand, behind_commit, committed, committed_as, kept_by, named_at, with_transaction, written_by}
use Rattle.tx_history.specs.Kinds.{kind_in, writes_rows_in}
use Rattle.engine_transactions.specs.Leads.{committed_data, data_after, data_behind, open_data, written_data}
use Rattle.engine_transactions.specs.Meaning.{executing, means}
use Rattle.tx_history.specs.Views.{OpenView, TransactionView, with_write}
use Rattle.engine_transactions.specs.Standing.{Standing}
use Rattle.tx_history.specs.declared.table_read.TableRead.{TableRead}
use Rattle.version_notes.specs.Runs.{last_of}

-- the data behind the last of some states
abbrev Ends : Standing → List AnyDatabase → Standing → Type 0
Ends s datas next = last_of s.sessions.laid.database datas ≡ next.sessions.laid.database

runs_end : (state : SessionsStanding) (runs : List (Ran SessionsStanding TableRead WriteReply)) → last_of state.laid.database (data_after runs) ≡ (end_of state runs).laid.database
runs_end state [] = refl
runs_end state (ran ∷ runs) = runs_end ran.next runs

module _ (s : Standing) where
  commit_ends : (t : TransactionView) (r : Result (List (Ran SessionsStanding TableRead WriteReply)) CommitFault) (answer : Answer × Standing) → committed_as s t r ≡ Ok answer → Ends s (committed_data r) answer.1
  commit_ends t (Ok runs) answer e = subst (λ (q : Answer × Standing). Ends s (data_after runs) q.1) (ok_is (Plain (Committed (results runs)), behind_commit s t runs) answer e) (runs_end s.sessions runs)
  commit_ends t (Err fault) answer e = absurd (let no : ⊥ = cc in no)

  open_ends : (o : Option OpenView) (answer : Answer × Standing) → committed s o ≡ Ok answer → Ends s (open_data s o) answer.1
  open_ends None answer e = absurd (let no : ⊥ = cc in no)
  open_ends (Some o) answer e = commit_ends o.transaction (commit means (executing s) o.transaction) answer e

  kept_ends : (t : TransactionView) (version : Option (List ℕ)) (x : StatementView) (answer : Answer × Standing) → kept_by s t version x ≡ Ok answer → Ends s [] answer.1
  kept_ends t None x answer e = absurd (let no : ⊥ = cc in no)
  kept_ends t (Some version) x answer e = subst (λ (q : Answer × Standing). Ends s [] q.1) (ok_is (Plain Kept, with_transaction s (with_write t x)) answer e) refl

  write_ends : (o : Option OpenView) (name : TableName) (x : StatementView) (answer : Answer × Standing) → written_by s o name x ≡ Ok answer → Ends s (written_data o answer.1) answer.1
  write_ends None name x answer e = refl
  write_ends (Some o) name x answer e = kept_ends o.transaction (named_at s name).version (in_full (used_by s.sessions.uses s.sessions.session) x) answer e

  -- THE LAST OF THE DATA BEHIND IT is what stands behind it
  pub ends : (x : StatementView) (answer : Answer × Standing) → writes_rows_in (kind_in x) ≡ true → act s x ≡ Ok answer → Ends s (data_behind s x answer.1) answer.1
  ends (CreateVersion name from operators) answer on e = absurd (let no : ⊥ = cc in no)
  ends (DropVersion name) answer on e = absurd (let no : ⊥ = cc in no)
  ends (Insert name rows) answer on e = write_ends (at_hand s) name (Insert name rows) answer e
  ends (Import name text) answer on e = write_ends (at_hand s) name (Import name text) answer e
  ends (Update name assignments filter) answer on e = write_ends (at_hand s) name (Update name assignments filter) answer e
  ends (Delete name filter) answer on e = write_ends (at_hand s) name (Delete name filter) answer e
  ends (Select name items filter csv) answer on e = absurd (let no : ⊥ = cc in no)
  ends (Materialize named in_steps) answer on e = absurd (let no : ⊥ = cc in no)
  ends Step answer on e = absurd (let no : ⊥ = cc in no)
  ends ShowLayout answer on e = absurd (let no : ⊥ = cc in no)
  ends (Use name) answer on e = absurd (let no : ⊥ = cc in no)
  ends (Session number) answer on e = absurd (let no : ⊥ = cc in no)
  ends (Advise name) answer on e = absurd (let no : ⊥ = cc in no)
  ends (Watch name) answer on e = absurd (let no : ⊥ = cc in no)
  ends (Unwatch number) answer on e = absurd (let no : ⊥ = cc in no)
  ends Begin answer on e = absurd (let no : ⊥ = cc in no)
  ends Commit answer on e = open_ends (at_hand s) answer e
  ends Rollback answer on e = absurd (let no : ⊥ = cc in no)
