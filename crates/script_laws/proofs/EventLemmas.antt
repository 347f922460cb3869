-- One event: what holds of the standing behind it.
use Rattle.std.specs.Prelude.{◌==◌, not, length, if◌then◌else◌, Option, Some, None, Result, Ok, Err}
use Rattle.std.proofs.Common.{◌≡◌, ℕ, List, Bool, true, false, refl, subst}
use Rattle.par_base.specs.declared.refusal.Refusal.{Refusal}
use Rattle.par_base.specs.declared.refusal.Refusal.TheVariants.{ReadAfterWrite}
use Rattle.par_base.specs.Checked.{Checked, ◌then◌}
use Rattle.statements.specs.Views.{StatementView, CreateVersion, DropVersion, Insert, Import, Update, Delete, Select, Materialize, Step, ShowLayout, Use, Session, Advise, Watch, Unwatch, Begin, Commit, Rollback}
use Rattle.statements.specs.declared.statement.TableName.{TableName}
use Rattle.version_graph.specs.Sets.{Each}
use Rattle.session_tx.specs.Commits.{read_fault, results, runs_of, unless}
use Rattle.session_tx.specs.declared.commit_fault.CommitFault.{CommitFault}
use Rattle.session_laws.specs.Found.{found}
use Rattle.session_laws.specs.Beside.{next_state as next_beside}
use Rattle.session_laws.specs.Kept.{IsKept, StatementsKeep as StatementsKeepBeside}
use Rattle.session_laws.specs.Written.{IsWrite, WritesAreOrdinary, WritesInFullAreOrdinary}
use Rattle.engine_transactions.specs.EngineMovesAct.{act as act_in_full}
use Rattle.engine_transactions.specs.Moving.{Moving}
use Rattle.engine_transactions.specs.Reply.{Reply}
use Rattle.engine_transactions.specs.Reply.TheVariants.{Committed, Kept}
use Rattle.engine_transactions.specs.Answer.{Answer}
use Rattle.engine_transactions.specs.Answer.TheVariants.{Plain}
use Rattle.engine_transactions.specs.EngineSessionsStanding.{Standing as SessionsStanding, moving_in, used_by}
use Rattle.engine_transactions.specs.InFull.{in_full}
use Rattle.engine_transactions.specs.EngineSessionsAct.{act as act_beside, answer_of}
use Rattle.engine_transactions.proofs.TextLaws.{import_texts}
use Rattle.tx_history.specs.declared.table_read.TableRead.{TableRead}
use Rattle.tx_history.specs.Views.{OpenView, TransactionView, no_transaction, with_write}
use Rattle.engine_transactions.specs.Standing.{Standing}
use Rattle.engine_transactions.specs.Meaning.{executing, means}
use Rattle.engine_transactions.specs.Act.{at_hand, at_once, begun_by, committed, committed_as, history_behind, kept_by, named_at, noted, read_of, rolled_back, selected_by, with_transaction, written_by}
use Rattle.engine_transactions.specs.Replies.{next_state}
use Rattle.script_laws.specs.Kept.{IsKeptAt, StatementsKeep}
use Rattle.script_laws.specs.Written.{AreWrites, CommitsWrites, StatementsAreOrdinary, WritesOrKeeps}
use Rattle.script_laws.proofs.OpenLemmas.{Fits, fit_at, fit_more, fit_with, fit_without}
use Rattle.script_laws.proofs.RunLemmas.{Run, RunWell, data_in, runs_well}

-- where an event is answered, this holds of it
abbrev Where : Standing → (Answer × Standing → Type 0) → Checked (Answer × Standing) → Type 0
Where s P (Ok answer) = P answer
Where s P (Err refusal) = Unit {0}

-- a statement that acts at once, and when it changed what
abbrev with_history : Standing → StatementView → Checked (Answer × SessionsStanding) → Checked (Answer × Standing)
with_history s x m = m then λ answer. Ok (answer.0, record s { sessions = answer.1; history = history_behind s x answer.1 })

module _ (full : WritesInFullAreOrdinary) (s : Standing) (kept : IsKeptAt s) where
  abbrev opened : Option OpenView
  opened = at_hand s

  kept_once : (x : StatementView) (m : Checked (Answer × SessionsStanding)) → IsKept (data_in (next_beside s.sessions m)) → IsKeptAt (next_state s (with_history s x m))
  kept_once x (Ok answer) sound = record { database = sound; writes = kept.writes }
  kept_once x (Err refusal) sound = kept

  kept_begun : (o : Option OpenView) → IsKeptAt (next_state s (begun_by s o))
  kept_begun None = record { database = kept.database; writes = fit_with s.opens s.sessions.session no_transaction kept.writes tt }
  kept_begun (Some o) = kept

  kept_rolled : (o : Option OpenView) → IsKeptAt (next_state s (rolled_back s o))
  kept_rolled None = kept
  kept_rolled (Some o) = record { database = kept.database; writes = fit_without s.opens s.sessions.session kept.writes }

  -- the writes of the open transaction
  fits : (o : OpenView) → opened ≡ Some o → Each Fits o.transaction.writes
  fits o is = fit_at s.opens s.sessions.session o is kept.writes

  kept_noted : (o : OpenView) → opened ≡ Some o → (read : Option TableRead) → IsKeptAt (noted s o.transaction read)
  kept_noted o is None = kept
  kept_noted o is (Some read) = record { database = kept.database; writes = fit_with s.opens s.sessions.session _ kept.writes (fits o is) }

  kept_read : (o : OpenView) → opened ≡ Some o → (csv : Bool) (read : Option TableRead) (written : Bool) (m : Checked (Reply × Moving))
      → IsKeptAt (next_state s (if written then Err ReadAfterWrite else (m then λ answer. Ok (answer_of csv answer.0, noted s o.transaction read))))
  kept_read o is csv read true m = kept
  kept_read o is csv read false (Ok answer) = kept_noted o is read
  kept_read o is csv read false (Err refusal) = kept

  kept_selected : (o : Option OpenView) → opened ≡ o → (name : TableName) (csv : Bool) (x : StatementView) → IsKeptAt (next_state s (at_once s x)) → IsKeptAt (next_state s (selected_by s o name csv x))
  kept_selected None is name csv x once = once
  kept_selected (Some o) is name csv x once =
      kept_read o is csv (read_of (named_at s name) (found s.sessions.laid.database (named_at s name))) (not (length o.transaction.writes == 0))
      (act_in_full (moving_in s.sessions) (in_full (used_by s.sessions.uses s.sessions.session) x))

  kept_kept : (o : OpenView) → opened ≡ Some o → (version : Option (List ℕ)) (x : StatementView) → Fits x → IsKeptAt (next_state s (kept_by s o.transaction version x))
  kept_kept o is None x fit = kept
  kept_kept o is (Some version) x fit = record { database = kept.database; writes = fit_with s.opens s.sessions.session _ kept.writes (fit_more o.transaction x (fits o is) fit) }

  kept_written : (o : Option OpenView) → opened ≡ o → (name : TableName) (x : StatementView) → Fits (in_full (used_by s.sessions.uses s.sessions.session) x) → IsKeptAt (next_state s (at_once s x)) → IsKeptAt (next_state s (written_by s o name x))
  kept_written None is name x fit once = once
  kept_written (Some o) is name x fit once = kept_kept o is (named_at s name).version (in_full (used_by s.sessions.uses s.sessions.session) x) fit

  -- ---- a COMMIT

  -- it carries out the writes, and leaves such a standing
  pub record Commits (t : TransactionView) (answer : Answer × Standing) : Type 0 where
    pub runs : List Run
    pub told : answer.0 ≡ Plain (Committed (results runs))
    pub writes : AreWrites (data_in s.sessions) t.writes (results runs) (data_in answer.1.sessions)
    pub kept_there : IsKeptAt answer.1

  committed_well : (t : TransactionView) (fault : Option CommitFault) (r : Result (List Run) Refusal) → RunWell full s.sessions t.writes r → Where s (Commits t) (committed_as s t (unless fault r))
  committed_well t (Some fault) r well = tt
  committed_well t None (Err refusal) well = tt
  committed_well t None (Ok runs) well = record {
    runs = runs;
    told = refl;
    writes = well.0;
    kept_there = record { database = well.1; writes = fit_without s.opens s.sessions.session kept.writes };
  }

  commits : (o : OpenView) → opened ≡ Some o → Where s (Commits o.transaction) (committed s (Some o))
  commits o is = committed_well o.transaction (read_fault (executing s) o.transaction.reads) (runs_of means s.sessions o.transaction.writes) (runs_well full o.transaction.writes s.sessions (fits o is) kept.database)

  kept_where : (t : TransactionView) (m : Checked (Answer × Standing)) → Where s (Commits t) m → IsKeptAt (next_state s m)
  kept_where t (Ok answer) well = well.kept_there
  kept_where t (Err refusal) well = kept

  kept_committed : (o : Option OpenView) → opened ≡ o → IsKeptAt (next_state s (committed s o))
  kept_committed None is = kept
  kept_committed (Some o) is = kept_where o.transaction (committed s (Some o)) (commits o is)

  ordinary_where : (o : OpenView) → opened ≡ Some o → (m : Checked (Answer × Standing)) → Where s (Commits o.transaction) m → (answer : Answer × Standing) → m ≡ Ok answer → CommitsWrites s answer
  ordinary_where o is (Ok a) well answer same = subst (CommitsWrites s) (let one : a ≡ answer = cc in one) (record { opened = o; at = is; replies = results well.runs; told = well.told; writes = well.writes })
  ordinary_where o is (Err refusal) well answer same = absurd (let no : ⊥ = cc in no)

  ordinary_commit : (o : Option OpenView) → opened ≡ o → (answer : Answer × Standing) → committed s o ≡ Ok answer → CommitsWrites s answer
  ordinary_commit None is answer same = absurd (let no : ⊥ = cc in no)
  ordinary_commit (Some o) is answer same = ordinary_where o is (committed s (Some o)) (commits o is) answer same

  -- ---- a write

  ordinary_once : (x : StatementView) (m : Checked (Answer × SessionsStanding)) → ((a : Answer × SessionsStanding) → m ≡ Ok a → IsWrite s.sessions x a) → (answer : Answer × Standing) → with_history s x m ≡ Ok answer → IsWrite s.sessions x (answer.0, answer.1.sessions)
  ordinary_once x (Ok a) law answer same =
      let one : (a.0, record s { sessions = a.1; history = history_behind s x a.1 }) ≡ answer = cc in
      subst (λ (k : Answer × Standing). IsWrite s.sessions x (k.0, k.1.sessions)) one (law a refl)
  ordinary_once x (Err refusal) law answer same = absurd (let no : ⊥ = cc in no)

  ordinary_kept : (o : OpenView) (version : Option (List ℕ)) (x y : StatementView) (answer : Answer × Standing) → kept_by s o.transaction version y ≡ Ok answer → WritesOrKeeps (Some o) s x answer
  ordinary_kept o None x y answer same = absurd (let no : ⊥ = cc in no)
  ordinary_kept o (Some version) x y answer same =
      let one : (Plain Kept, with_transaction s (with_write o.transaction y)) ≡ answer = cc in
      subst (λ (k : Answer × Standing). (k.0 ≡ Plain Kept) × (k.1.sessions ≡ s.sessions)) one (refl, refl)

  ordinary_write : (o : Option OpenView) (name : TableName) (x : StatementView) → ((a : Answer × SessionsStanding) → act_beside s.sessions x ≡ Ok a → IsWrite s.sessions x a)
      → (answer : Answer × Standing) → written_by s o name x ≡ Ok answer → WritesOrKeeps o s x answer
  ordinary_write None name x law answer same = ordinary_once x (act_beside s.sessions x) law answer same
  ordinary_write (Some o) name x law answer same = ordinary_kept o (named_at s name).version x (in_full (used_by s.sessions.uses s.sessions.session) x) answer same

-- a statement that acts at once
once : StatementsKeepBeside → WritesInFullAreOrdinary → (s : Standing) (x : StatementView) → Fits x → IsKeptAt s → IsKeptAt (next_state s (at_once s x))
once beside full s x fits kept = kept_once full s kept x (act_beside s.sessions x) (beside s.sessions x fits kept.database)

-- EACH STATEMENT LEAVES SUCH A STANDING
pub statements_keep : StatementsKeepBeside → WritesInFullAreOrdinary → StatementsKeep
statements_keep beside full s (CreateVersion name from operators) fits kept = once beside full s (CreateVersion name from operators) fits kept
statements_keep beside full s (DropVersion name) fits kept = once beside full s (DropVersion name) fits kept
statements_keep beside full s (Insert name rows) fits kept = kept_written full s kept (at_hand s) refl name (Insert name rows) fits (once beside full s (Insert name rows) fits kept)
statements_keep beside full s (Import name text) fits kept = kept_written full s kept (at_hand s) refl name (Import name text) (import_texts text fits) (once beside full s (Import name text) fits kept)
statements_keep beside full s (Update name assignments filter) fits kept = kept_written full s kept (at_hand s) refl name (Update name assignments filter) fits (once beside full s (Update name assignments filter) fits kept)
statements_keep beside full s (Delete name filter) fits kept = kept_written full s kept (at_hand s) refl name (Delete name filter) fits (once beside full s (Delete name filter) fits kept)
statements_keep beside full s (Select name items filter csv) fits kept = kept_selected full s kept (at_hand s) refl name csv (Select name items filter csv) (once beside full s (Select name items filter csv) fits kept)
statements_keep beside full s (Materialize named in_steps) fits kept = once beside full s (Materialize named in_steps) fits kept
statements_keep beside full s Step fits kept = once beside full s Step fits kept
statements_keep beside full s ShowLayout fits kept = once beside full s ShowLayout fits kept
statements_keep beside full s (Use name) fits kept = once beside full s (Use name) fits kept
statements_keep beside full s (Session number) fits kept = once beside full s (Session number) fits kept
statements_keep beside full s (Advise name) fits kept = once beside full s (Advise name) fits kept
statements_keep beside full s (Watch name) fits kept = once beside full s (Watch name) fits kept
statements_keep beside full s (Unwatch number) fits kept = once beside full s (Unwatch number) fits kept
statements_keep beside full s Begin fits kept = kept_begun full s kept (at_hand s)
statements_keep beside full s Commit fits kept = kept_committed full s kept (at_hand s) refl
statements_keep beside full s Rollback fits kept = kept_rolled full s kept (at_hand s)

-- EACH ANSWERED WRITE IS THAT OF AN ORDINARY DATABASE
pub statements_ordinary : WritesAreOrdinary → WritesInFullAreOrdinary → StatementsAreOrdinary
statements_ordinary law full s (CreateVersion name from operators) answer fits kept same = tt
statements_ordinary law full s (DropVersion name) answer fits kept same = tt
statements_ordinary law full s (Insert name rows) answer fits kept same = ordinary_write full s kept (at_hand s) name (Insert name rows) (λ a is. law s.sessions (Insert name rows) a fits kept.database is) answer same
statements_ordinary law full s (Import name text) answer fits kept same = ordinary_write full s kept (at_hand s) name (Import name text) (λ a is. law s.sessions (Import name text) a fits kept.database is) answer same
statements_ordinary law full s (Update name assignments filter) answer fits kept same = ordinary_write full s kept (at_hand s) name (Update name assignments filter) (λ a is. law s.sessions (Update name assignments filter) a fits kept.database is) answer same
statements_ordinary law full s (Delete name filter) answer fits kept same = ordinary_write full s kept (at_hand s) name (Delete name filter) (λ a is. law s.sessions (Delete name filter) a fits kept.database is) answer same
statements_ordinary law full s (Select name items filter csv) answer fits kept same = tt
statements_ordinary law full s (Materialize named in_steps) answer fits kept same = tt
statements_ordinary law full s Step answer fits kept same = tt
statements_ordinary law full s ShowLayout answer fits kept same = tt
statements_ordinary law full s (Use name) answer fits kept same = tt
statements_ordinary law full s (Session number) answer fits kept same = tt
statements_ordinary law full s (Advise name) answer fits kept same = tt
statements_ordinary law full s (Watch name) answer fits kept same = tt
statements_ordinary law full s (Unwatch number) answer fits kept same = tt
statements_ordinary law full s Begin answer fits kept same = tt
statements_ordinary law full s Commit answer fits kept same = ordinary_commit full s kept (at_hand s) refl answer same
statements_ordinary law full s Rollback answer fits kept same = tt
