-- With transactions: what moves change for one statement.
use Rattle.std.specs.Prelude.{◌==◌, not, length, map, if◌then◌else◌, Option, Some, None, Result, Ok, Err}
use Rattle.std.proofs.Common.{◌≡◌, ◌||◌, ℕ, List, [], ◌∷◌, Bool, true, false, refl, sym, ap, subst, ◌∙◌}
use Rattle.par_base.specs.declared.limits.Target.{Target}
use Rattle.par_base.specs.declared.refusal.Refusal.{Refusal}
use Rattle.par_base.specs.declared.refusal.Refusal.TheVariants.{ReadAfterWrite}
use Rattle.par_base.specs.Checked.{Checked, ◌then◌}
use Rattle.statements.specs.Views.{StatementView, CreateVersion, DropVersion, Insert, Import, Update, Delete, Select, Materialize, Step, ShowLayout, Use, Session, Advise, Watch, Unwatch, Begin, Commit, Rollback}
use Rattle.statements.specs.declared.statement.TableName.{TableName}
use Rattle.session_tx.specs.Meaning.{Ran}
use Rattle.session_tx.specs.Commits.{read_fault, results, running, runs_of, unless, with_runs}
use Rattle.session_tx.specs.Serial.{end_of}
use Rattle.session_tx.specs.declared.commit_fault.CommitFault.{CommitFault}
use Rattle.session_laws.specs.Found.{found}
use Rattle.engine_transactions.specs.AnyDatabase.{AnyDatabase}
use Rattle.engine_transactions.specs.Pending.{next_flip}
use Rattle.engine_transactions.specs.Replies.{next_state}
use Rattle.engine_transactions.specs.EngineCoreAct.{acted_data, is_built}
use Rattle.engine_transactions.specs.EngineCoreUndo.{acted_write}
use Rattle.engine_transactions.specs.Moving.{Moving}
use Rattle.engine_transactions.specs.Reply.{Reply}
use Rattle.engine_transactions.specs.Answer.{Answer}
use Rattle.engine_transactions.specs.Answer.TheVariants.{Plain}
use Rattle.engine_transactions.specs.Reply.TheVariants.{Committed as CommittedReply}
use Rattle.engine_transactions.specs.EngineSessionsStanding.{Standing as SessionsStanding, used_by}
use Rattle.engine_transactions.specs.InFull.{in_full}
use Rattle.engine_transactions.specs.Accesses.{kept_behind}
use Rattle.engine_transactions.specs.EngineSessionsAct.{act as act_beside, answer_of}
use Rattle.engine_state.specs.declared.reply.WriteReply.{WriteReply}
use Rattle.tx_history.specs.declared.table_read.TableRead.{TableRead}
use Rattle.tx_history.specs.History.{History}
use Rattle.engine_transactions.specs.Changed.{has_changed, with_writes}
use Rattle.tx_history.specs.Views.{OpenView, TransactionView}
use Rattle.engine_transactions.specs.Standing.{Standing}
use Rattle.engine_transactions.specs.Meaning.{any_changed, executing, means, write_reply}
use Rattle.engine_transactions.specs.Act.{accesses_of, act, at_once, at_hand, begun_by, behind_commit, committed, committed_as, history_behind, kept_by, named_at, noted, raised_all, read_of, rolled_back, selected_by, written_by}
use Rattle.script_laws.specs.Moves.{laid_out, tells_storage, with_layout}
use Rattle.script_laws.proofs.BesideLemmas.{beside, beside_move, both_leave, relaid as relaid_beside, same_act as same_beside, step_leaves as step_leaves_beside, Leaves as LeavesBeside}

-- the same answer or refusal, and what stands behind it under this layout
abbrev pub relaid : List ℕ → List ℕ → Checked (Answer × Standing) → Checked (Answer × Standing)
relaid layout pending (Ok answer) = Ok (answer.0, with_layout answer.1 layout pending)
relaid layout pending (Err refusal) = Err refusal

-- the same, but for the layout and what is pending behind it
pub record SameBut (a b : Checked (Answer × Standing)) : Type 0 where
  pub layout : List ℕ
  pub pending : List ℕ
  pub is : b ≡ relaid layout pending a

-- ---- runs of writes

abbrev pub Runs : Type 0
Runs = List (Ran SessionsStanding TableRead WriteReply)

module _ (layout pending : List ℕ) where
  abbrev pub relaid_run : Ran SessionsStanding TableRead WriteReply → Ran SessionsStanding TableRead WriteReply
  relaid_run run = record run { next = laid_out run.next layout pending }

  abbrev pub relaid_runs : Runs → Runs
  relaid_runs runs = map relaid_run runs

  abbrev pub relaid_all : Result Runs Refusal → Result Runs Refusal
  relaid_all (Ok runs) = Ok (relaid_runs runs)
  relaid_all (Err refusal) = Err refusal

  abbrev relaid_one : Checked (Ran SessionsStanding TableRead WriteReply) → Checked (Ran SessionsStanding TableRead WriteReply)
  relaid_one (Ok run) = Ok (relaid_run run)
  relaid_one (Err refusal) = Err refusal

  -- a write's answer, as a run
  abbrev run_for : SessionsStanding → AnyDatabase → Checked WriteReply → Checked (Ran SessionsStanding TableRead WriteReply)
  run_for s next reply = reply then λ r. Ok (record { done = r; next = record s { laid = record s.laid { database = next } }; changes = λ read. has_changed s.laid.database next read.table })

  same_reply : (s : SessionsStanding) (next : AnyDatabase) (reply : Checked WriteReply) → run_for (laid_out s layout pending) next reply ≡ relaid_one (run_for s next reply)
  same_reply s next (Ok r) = refl
  same_reply s next (Err refusal) = refl

  -- what a write leaves
  abbrev written_for : SessionsStanding → Checked (Reply × AnyDatabase) → Checked (Reply × SessionsStanding)
  written_for s m = m then λ answer. Ok (answer.0, record s { laid = record s.laid { database = answer.1 } })

  abbrev ran_for : SessionsStanding → Checked (Reply × AnyDatabase) → Checked (Ran SessionsStanding TableRead WriteReply)
  ran_for s m =
      written_for s m then λ answer.
      write_reply answer.0 then λ reply.
      Ok (record { done = reply; next = answer.1; changes = λ read. has_changed s.laid.database answer.1.laid.database read.table })

  same_ran : (s : SessionsStanding) (m : Checked (Reply × AnyDatabase)) → ran_for (laid_out s layout pending) m ≡ relaid_one (ran_for s m)
  same_ran s (Ok answer) = same_reply s answer.1 (write_reply answer.0)
  same_ran s (Err refusal) = refl

  same_means : (s : SessionsStanding) (write : StatementView) → means (laid_out s layout pending) write ≡ relaid_one (means s write)
  same_means s write = same_ran s (acted_write s.laid.database write)

  more_runs : (run : Ran SessionsStanding TableRead WriteReply) (more : Result Runs Refusal) → with_runs (relaid_run run ∷ []) (relaid_all more) ≡ relaid_all (with_runs (run ∷ []) more)
  more_runs run (Ok runs) = refl
  more_runs run (Err refusal) = refl

  same_running : (ws : List StatementView) (m : Checked (Ran SessionsStanding TableRead WriteReply))
      → ((s : SessionsStanding) → runs_of means (laid_out s layout pending) ws ≡ relaid_all (runs_of means s ws))
      → running (relaid_one m) (λ next. runs_of means next ws) ≡ relaid_all (running m (λ next. runs_of means next ws))
  same_running ws (Ok run) rest = ap (λ (r : Result Runs Refusal). with_runs (relaid_run run ∷ []) r) (rest run.next) ∙ more_runs run (runs_of means run.next ws)
  same_running ws (Err refusal) rest = refl

  -- the writes run the same under another layout
  pub same_runs : (ws : List StatementView) (s : SessionsStanding) → runs_of means (laid_out s layout pending) ws ≡ relaid_all (runs_of means s ws)
  same_runs [] s = refl
  same_runs (w ∷ ws) s = ap (λ (m : Checked (Ran SessionsStanding TableRead WriteReply)). running m (λ next. runs_of means next ws)) (same_means s w) ∙ same_running ws (means s w) (same_runs ws)

  same_results : (runs : Runs) → results (relaid_runs runs) ≡ results runs
  same_results [] = refl
  same_results (run ∷ runs) = ap (λ (more : List WriteReply). run.done ∷ more) (same_results runs)

  same_end : (s : SessionsStanding) (runs : Runs) → end_of (laid_out s layout pending) (relaid_runs runs) ≡ laid_out (end_of s runs) layout pending
  same_end s [] = refl
  same_end s (run ∷ runs) = same_end run.next runs

  same_changed : (s : SessionsStanding) (runs : Runs) (t : ℕ) → any_changed (laid_out s layout pending) (relaid_runs runs) t ≡ any_changed s runs t
  same_changed s [] t = refl
  same_changed s (run ∷ runs) t = ap (λ (b : Bool). has_changed s.laid.database run.next.laid.database t || b) (same_changed run.next runs t)

  -- ---- the statements of a transaction

  module _ (s : Standing) where
    abbrev other : Standing
    other = with_layout s layout pending

    same_begun : (o : Option OpenView) → begun_by other o ≡ relaid layout pending (begun_by s o)
    same_begun None = refl
    same_begun (Some o) = refl

    same_rolled : (o : Option OpenView) → rolled_back other o ≡ relaid layout pending (rolled_back s o)
    same_rolled None = refl
    same_rolled (Some o) = refl

    same_kept : (t : TransactionView) (version : Option (List ℕ)) (x : StatementView) → kept_by other t version x ≡ relaid layout pending (kept_by s t version x)
    same_kept t None x = refl
    same_kept t (Some version) x = refl

    same_noted : (t : TransactionView) (read : Option TableRead) → noted other t read ≡ with_layout (noted s t read) layout pending
    same_noted t None = refl
    same_noted t (Some read) = refl

    -- the behind of a commit
    same_behind : (t : TransactionView) (runs : Runs) → behind_commit other t (relaid_runs runs) ≡ with_layout (behind_commit s t runs) layout pending
    same_behind t runs = λ i. record {
      sessions = record (same_end s.sessions runs i) { counts = kept_behind false (same_end s.sessions runs i).laid.database.graph.edges (raised_all s.sessions.counts (accesses_of s.sessions.laid.database t)) };
      history = with_writes s.history s.sessions.laid.database (λ table. same_changed s.sessions runs table i);
      opens = (behind_commit s t runs).opens;
    }

    same_committed : (t : TransactionView) (fault : Option CommitFault) (runs : Result Runs Refusal)
        → committed_as other t (unless fault (relaid_all runs)) ≡ relaid layout pending (committed_as s t (unless fault runs))
    same_committed t (Some fault) runs = refl
    same_committed t None (Err refusal) = refl
    same_committed t None (Ok runs) = λ i. Ok (Plain (CommittedReply (same_results runs i)), same_behind t runs i)

    same_commit : (o : Option OpenView) → committed other o ≡ relaid layout pending (committed s o)
    same_commit None = refl
    same_commit (Some o) =
        let t = o.transaction in
        ap (λ (r : Result Runs Refusal). committed_as other t (unless (read_fault (executing s) t.reads) r)) (same_runs t.writes s.sessions) ∙ same_committed t (read_fault (executing s) t.reads) (runs_of means s.sessions t.writes)

    -- ---- a SELECT in a transaction

    -- what is read of it
    abbrev read_in : Standing → Bool → TransactionView → Option TableRead → Checked (Reply × Moving) → Checked (Answer × Standing)
    read_in at csv t read m = if not (length t.writes == 0) then Err ReadAfterWrite else (m then λ answer. Ok (answer_of csv answer.0, noted at t read))

    -- a statement on the data, beside a layout and what is pending
    abbrev on_data : SessionsStanding → Bool → Checked (Reply × AnyDatabase) → Checked (Reply × Moving)
    on_data at b m = beside_move at.pending false (beside at.laid b m)

    same_read_data : (csv : Bool) (t : TransactionView) (read : Option TableRead) (written b : Bool) (m : Checked (Reply × AnyDatabase))
        → (if written then Err ReadAfterWrite else (on_data other.sessions b m then λ answer. Ok (answer_of csv answer.0, noted other t read)))
        ≡ relaid layout pending (if written then Err ReadAfterWrite else (on_data s.sessions b m then λ answer. Ok (answer_of csv answer.0, noted s t read)))
    same_read_data csv t read true b m = refl
    same_read_data csv t read false false m = refl
    same_read_data csv t read false true (Err refusal) = refl
    same_read_data csv t read false true (Ok answer) = ap (λ (next : Standing). Ok (answer_of csv answer.0, next)) (same_noted t read)

    same_selected : (o : Option OpenView) (name : TableName) (csv : Bool) (x : StatementView) → SameBut (at_once s x) (at_once other x)
        → (items : _) (filter : _) → x ≡ Select name items filter csv → SameBut (selected_by s o name csv x) (selected_by other o name csv x)
    same_selected None name csv x once items filter is = once
    same_selected (Some o) name csv x once items filter is = record {
      layout = layout;
      pending = pending;
      is = subst (λ (y : StatementView). selected_by other (Some o) name csv y ≡ relaid layout pending (selected_by s (Some o) name csv y)) (sym is)
          (let full = in_full (used_by s.sessions.uses s.sessions.session) (Select name items filter csv) in
          same_read_data csv o.transaction (read_of (named_at s name) (found s.sessions.laid.database (named_at s name))) (not (length o.transaction.writes == 0)) (is_built full) (acted_data s.sessions.laid.database full));
    }

    same_written : (o : Option OpenView) (name : TableName) (x : StatementView) → SameBut (at_once s x) (at_once other x) → SameBut (written_by s o name x) (written_by other o name x)
    same_written None name x once = once
    same_written (Some o) name x once = record { layout = layout; pending = pending; is = same_kept o.transaction (named_at s name).version (in_full (used_by s.sessions.uses s.sessions.session) x) }

-- ---- every other statement

module _ (s : Standing) (layout pending : List ℕ) where
  abbrev under : Standing
  under = with_layout s layout pending

  -- what it changed, and when
  same_history : (x : StatementView) (next : SessionsStanding) (layout' pending' : List ℕ) → history_behind under x (laid_out next layout' pending') ≡ history_behind s x next
  same_history (CreateVersion name from operators) next layout' pending' = refl
  same_history (DropVersion name) next layout' pending' = refl
  same_history (Insert table rows) next layout' pending' = refl
  same_history (Import table bytes) next layout' pending' = refl
  same_history (Update table assignments filter) next layout' pending' = refl
  same_history (Delete table filter) next layout' pending' = refl
  same_history (Select table items filter csv) next layout' pending' = refl
  same_history (Materialize named in_steps) next layout' pending' = refl
  same_history Step next layout' pending' = refl
  same_history ShowLayout next layout' pending' = refl
  same_history (Use name) next layout' pending' = refl
  same_history (Session number) next layout' pending' = refl
  same_history (Advise name) next layout' pending' = refl
  same_history (Watch name) next layout' pending' = refl
  same_history (Unwatch number) next layout' pending' = refl
  same_history Begin next layout' pending' = refl
  same_history Commit next layout' pending' = refl
  same_history Rollback next layout' pending' = refl

  -- with what stands beside sessions
  abbrev with_history : Standing → StatementView → Checked (Answer × SessionsStanding) → Checked (Answer × Standing)
  with_history at x m = m then λ answer. Ok (answer.0, record at { sessions = answer.1; history = history_behind at x answer.1 })

  same_relaid : (x : StatementView) (layout' pending' : List ℕ) (m : Checked (Answer × SessionsStanding))
      → with_history under x (relaid_beside layout' pending' m) ≡ relaid layout' pending' (with_history s x m)
  same_relaid x layout' pending' (Ok answer) = ap (λ (h : History). Ok (answer.0, record under { sessions = laid_out answer.1 layout' pending'; history = h })) (same_history x answer.1 layout' pending')
  same_relaid x layout' pending' (Err refusal) = refl

  same_once : (x : StatementView) → tells_storage x ≡ false → SameBut (at_once s x) (at_once under x)
  same_once x off =
      let same = same_beside s.sessions layout pending x off in
      record {
        layout = same.layout;
        pending = same.pending;
        is = ap (λ (m : Checked (Answer × SessionsStanding)). with_history under x m) same.is ∙ same_relaid x same.layout same.pending (act_beside s.sessions x);
      }

  pub same_act : (x : StatementView) → tells_storage x ≡ false → SameBut (act s x) (act under x)
  same_act (CreateVersion name from operators) off = same_once (CreateVersion name from operators) off
  same_act (DropVersion name) off = same_once (DropVersion name) off
  same_act (Insert table rows) off = same_written layout pending s (at_hand s) table (Insert table rows) (same_once (Insert table rows) off)
  same_act (Import table bytes) off = same_written layout pending s (at_hand s) table (Import table bytes) (same_once (Import table bytes) off)
  same_act (Update table assignments filter) off = same_written layout pending s (at_hand s) table (Update table assignments filter) (same_once (Update table assignments filter) off)
  same_act (Delete table filter) off = same_written layout pending s (at_hand s) table (Delete table filter) (same_once (Delete table filter) off)
  same_act (Select table items filter csv) off = same_selected layout pending s (at_hand s) table csv (Select table items filter csv) (same_once (Select table items filter csv) off) items filter refl
  same_act (Materialize named in_steps) off = absurd (let no : ⊥ = cc in no)
  same_act Step off = absurd (let no : ⊥ = cc in no)
  same_act ShowLayout off = absurd (let no : ⊥ = cc in no)
  same_act (Use name) off = same_once (Use name) off
  same_act (Session number) off = same_once (Session number) off
  same_act (Advise name) off = same_once (Advise name) off
  same_act (Watch name) off = same_once (Watch name) off
  same_act (Unwatch number) off = same_once (Unwatch number) off
  same_act Begin off = record { layout = layout; pending = pending; is = same_begun layout pending s (at_hand s) }
  same_act Commit off = record { layout = layout; pending = pending; is = same_commit layout pending s (at_hand s) }
  same_act Rollback off = record { layout = layout; pending = pending; is = same_rolled layout pending s (at_hand s) }

-- ---- moves

-- what it leaves is all but the layout and what is pending
pub record Leaves (s : Standing) (m : Checked (Answer × Standing)) : Type 0 where
  pub layout : List ℕ
  pub pending : List ℕ
  pub next : next_state s m ≡ with_layout s layout pending

-- a move and SHOW LAYOUT change no history
abbrev keeping : Standing → Checked (Answer × SessionsStanding) → Checked (Answer × Standing)
keeping s m = m then λ answer. Ok (answer.0, record s { sessions = answer.1; history = s.history })

keeping_leaves : (s : Standing) (m : Checked (Answer × SessionsStanding)) → LeavesBeside s.sessions m → Leaves s (keeping s m)
keeping_leaves s (Ok answer) left = record { layout = left.layout; pending = left.pending; next = ap (λ (t : SessionsStanding). record s { sessions = t }) left.next }
keeping_leaves s (Err refusal) left = record { layout = s.sessions.laid.layout; pending = s.sessions.pending; next = refl }

pub materialize_leaves : (s : Standing) (named : List Target) (in_steps : Bool) → Leaves s (act s (Materialize named in_steps))
materialize_leaves s named in_steps = keeping_leaves s (act_beside s.sessions (Materialize named in_steps)) (both_leave s.sessions named in_steps)

pub step_leaves : (s : Standing) → Leaves s (act s Step)
step_leaves s = keeping_leaves s (act_beside s.sessions Step) (step_leaves_beside s.sessions (next_flip s.sessions.laid.layout s.sessions.pending))
