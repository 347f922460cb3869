-- A write at once is as it means.
use Rattle.std.proofs.Common.{◌≡◌, ℕ, Bool, false, List, [], ◌∷◌, Ok, Err, refl, sym, ap, ◌∙◌}
use Rattle.par_base.specs.Checked.{Checked, ◌then◌}
use Rattle.par_base.specs.declared.fault.Fault.{Fault}
use Rattle.par_base.specs.declared.fault.Fault.TheVariants.{Refused, Memory as OutOfMemory}
use Rattle.par_base.specs.declared.refusal.Refusal.{Refusal}
use Rattle.statements.specs.Views.{StatementView, CreateVersion, DropVersion, Insert, Import, Update, Delete, Select, Materialize, Step, ShowLayout, Use, Session, Advise, Watch, Unwatch, Begin, Commit, Rollback}
use Rattle.layout_rules.specs.Changes.{layout_after}
use Rattle.session_tx.specs.Meaning.{Ran}
use Rattle.layout_planner.specs.declared.planning.TableCount.{TableCount}
use Rattle.engine_state.specs.AnyDatabase.{AnyDatabase}
use Rattle.engine_state.specs.declared.reply.Reply.{Reply}
use Rattle.engine_state.specs.declared.reply.Reply.TheVariants as reply
use Rattle.engine_state.specs.declared.reply.WriteReply.{WriteReply}
use Rattle.engine_sessions.specs.Statements.{state_with}
use Rattle.engine_sessions.specs.EngineCoreAct.{with_data}
use Rattle.engine_sessions.specs.Laid.{Laid}
use Rattle.engine_sessions.specs.EngineCoreUndo.{acted_write}
use Rattle.engine_sessions.specs.EngineMovesAct.{act as act_in_full, pending_behind}
use Rattle.engine_sessions.specs.Moving.{Moving}
use Rattle.engine_sessions.specs.Accesses.{accessed, is_move, kept_behind, raised_by}
use Rattle.engine_sessions.specs.Act.{answer_of, behind, counted}
use Rattle.engine_sessions.specs.Standing.{Standing as SessionsStanding, kept_in, moving_in, standing_of}
use Rattle.engine_sessions.specs.declared.answer.Answer.{Answer}
use Rattle.engine_sessions.specs.declared.answer.Answer.TheVariants.{Plain}
use Rattle.engine_transactions.specs.Calls.{reply_of, standing_in}
use Rattle.engine_transactions.specs.Changed.{has_changed, with_writes}
use Rattle.tx_history.specs.Kinds.{kind_in}
use Rattle.engine_transactions.specs.ByKind.{rows_behind, written_full}
use Rattle.engine_transactions.specs.Meaning.{means, write_reply}
use Rattle.engine_transactions.specs.Runs.{HoldsWrite, RunsOne, settled_in}
use Rattle.engine_transactions.specs.Standing.{Standing}
use Rattle.engine_transactions.specs.declared.executing.Executing.{Executing}
use Rattle.tx_history.specs.declared.table_read.TableRead.{TableRead}
use Rattle.engine_transactions.proofs.KindLemmas.{IsWrite}
use Rattle.engine_transactions.proofs.MeansLemmas.{is_meant, means_refused}
use Rattle.tx_history.proofs.TestLaws.{none_right}

-- the reply of a write
pub told_reply : (r : Reply) (done : WriteReply) → write_reply r ≡ Ok done → r ≡ reply_of done
told_reply (reply.Inserted ids) done h = cc
told_reply (reply.Updated count) done h = cc
told_reply (reply.Deleted count) done h = cc
told_reply _ done h = absurd (cc)

-- what the engine does for it
abbrev laid_write : Laid → Checked (Reply × AnyDatabase) → Checked (Reply × Laid)
laid_write s m = m then λ answer. Ok (with_data s answer)

abbrev moving_write : List ℕ → Checked (Reply × Laid) → Checked (Reply × Moving)
moving_write pending m = m then λ answer. Ok (answer.0, record { laid = answer.1; pending = pending_behind false answer.1 pending })

abbrev both_write : Laid → List ℕ → Checked (Reply × AnyDatabase) → Checked (Reply × Moving)
both_write s pending m = m then λ answer. Ok (answer.0, record { laid = (with_data s answer).1; pending = pending_behind false (with_data s answer).1 pending })

laid_then : (m : Checked (Reply × AnyDatabase)) (s : Laid) (pending : List ℕ) → moving_write pending (laid_write s m) ≡ both_write s pending m
laid_then (Ok a) s pending = refl
laid_then (Err r) s pending = refl

-- a write in full, with what is pending behind it
abbrev moved_write : Moving → StatementView → Checked (Reply × Moving)
moved_write m x = acted_write m.laid.database x then λ answer. Ok (answer.0, record { laid = (with_data m.laid answer).1; pending = pending_behind false (with_data m.laid answer).1 m.pending })

full_moves : (m : Moving) (x : StatementView) → IsWrite (kind_in x) → act_in_full m x ≡ moved_write m x
full_moves m (Insert name rows) is = laid_then (acted_write m.laid.database (Insert name rows)) m.laid m.pending
full_moves m (Import name text) is = refl
full_moves m (Update name assignments filter) is = laid_then (acted_write m.laid.database (Update name assignments filter)) m.laid m.pending
full_moves m (Delete name filter) is = laid_then (acted_write m.laid.database (Delete name filter)) m.laid m.pending
full_moves m (CreateVersion name from operators) is = absurd is
full_moves m (DropVersion name) is = absurd is
full_moves m (Select name items filter csv) is = absurd is
full_moves m (Materialize named in_steps) is = absurd is
full_moves m Step is = absurd is
full_moves m ShowLayout is = absurd is
full_moves m (Use name) is = absurd is
full_moves m (Session number) is = absurd is
full_moves m (Advise name) is = absurd is
full_moves m (Watch name) is = absurd is
full_moves m (Unwatch number) is = absurd is
full_moves m Begin is = absurd is
full_moves m Commit is = absurd is
full_moves m Rollback is = absurd is

no_move : (x : StatementView) → IsWrite (kind_in x) → is_move x ≡ false
no_move (Insert name rows) is = refl
no_move (Import name text) is = refl
no_move (Update name assignments filter) is = refl
no_move (Delete name filter) is = refl
no_move (CreateVersion name from operators) is = refl
no_move (DropVersion name) is = refl
no_move (Select name items filter csv) is = refl
no_move (Materialize named in_steps) is = absurd is
no_move Step is = absurd is
no_move ShowLayout is = refl
no_move (Use name) is = refl
no_move (Session number) is = refl
no_move (Advise name) is = refl
no_move (Watch name) is = refl
no_move (Unwatch number) is = refl
no_move Begin is = refl
no_move Commit is = refl
no_move Rollback is = refl

-- what is counted behind it
abbrev pub counts_behind : SessionsStanding → StatementView → List TableCount
counts_behind s x = kept_behind false s.laid.database.graph.edges (raised_by s.counts (accessed s.laid.database x))

module _ (s : SessionsStanding) (x : StatementView) (write : IsWrite (kind_in x)) (layout : layout_after s.laid.layout s.laid.database.graph s.laid.database.graph ≡ s.laid.layout) (pending : pending_behind false s.laid s.pending ≡ s.pending) where
  -- it answers and leaves, with its access counted, what it means
  pub counted_write : (ran : Ran SessionsStanding TableRead WriteReply) → means s x ≡ Ok ran → counted s false x ≡ Ok (Plain (reply_of ran.done), record ran.next { counts = counts_behind s x })
  counted_write ran h =
      let m = is_meant s x ran h in
      let d = s.laid.database in
      let a : Reply × AnyDatabase = (m.planned.reply, record d { state = (state_with d m.planned).state }) in
      let moves : act_in_full (moving_in s) x ≡ Ok (a.0, record { laid = (with_data s.laid a).1; pending = pending_behind false s.laid s.pending }) =
      full_moves (moving_in s) x write ∙ ap (both_write s.laid s.pending) m.acts in
      let next : (l p : List ℕ) → SessionsStanding = λ l p. record s { laid = record { database = a.1; layout = l }; pending = p; counts = counts_behind s x } in
      ap (λ (c : Checked (Reply × Moving)). c then λ answer. Ok (answer_of false answer.0, behind s (is_move x) (accessed d x) answer.1)) moves
      ∙ ap (λ (b : Bool). Ok (Plain a.0, record s { laid = (with_data s.laid a).1; pending = pending_behind false s.laid s.pending; counts = kept_behind b d.graph.edges (raised_by s.counts (accessed d x)) })) (no_move x write)
      ∙ (λ i. Ok (Plain a.0, next (layout i) (pending i)))
      ∙ ap (λ (r : Reply). Ok (Plain r, next s.laid.layout s.pending)) (told_reply a.0 ran.done m.told)
      ∙ ap (λ (n : SessionsStanding). Ok (Plain (reply_of ran.done), record n { counts = counts_behind s x })) (sym m.next)

  pub counted_refused : (r : Refusal) → means s x ≡ Err r → counted s false x ≡ Err r
  counted_refused r h =
      ap (λ (c : Checked (Reply × Moving)). c then λ answer. Ok (answer_of false answer.0, behind s (is_move x) (accessed s.laid.database x) answer.1)) (full_moves (moving_in s) x write)
      ∙ ap (λ (m : Checked (Reply × AnyDatabase)). both_write s.laid s.pending m then λ answer. Ok (answer_of false answer.0, behind s (is_move x) (accessed s.laid.database x) answer.1)) (means_refused s x r h)

-- with the history behind it
module _ (st : Standing) (x : StatementView) (write : IsWrite (kind_in x)) (layout : layout_after st.sessions.laid.layout st.sessions.laid.database.graph st.sessions.laid.database.graph ≡ st.sessions.laid.layout) (pending : pending_behind false st.sessions.laid st.sessions.pending ≡ st.sessions.pending) where
  abbrev told : Checked (Answer × SessionsStanding) → Checked (Answer × Standing)
  told m = m then λ answer. Ok (answer.0, record st { sessions = answer.1; history = rows_behind st answer.1 })

  pub full_written : (ran : Ran SessionsStanding TableRead WriteReply) → means st.sessions x ≡ Ok ran → (answer : Answer) → answer ≡ Plain (reply_of ran.done) → (counts : List TableCount) → counts ≡ counts_behind st.sessions x → written_full st x ≡ Ok (answer, settled_in st (ran ∷ []) counts st.opens)
  full_written ran is answer gives counts counted =
      let a = sym gives in
      let c = sym counted in
      let changes : (t : ℕ) → Bool = has_changed st.sessions.laid.database ran.next.laid.database in
      ap told (counted_write st.sessions x write layout pending ran is)
      ∙ (λ i. Ok (a i, record st { sessions = record ran.next { counts = c i }; history = with_writes st.history st.sessions.laid.database (λ t. sym (none_right (changes t)) i) }))

  pub full_refused : (r : Refusal) → means st.sessions x ≡ Err r → written_full st x ≡ Err r
  full_refused r is = ap told (counted_refused st.sessions x write layout pending r is)

-- a write that is refused, or memory that runs out
pub full_fails : (old new : Executing) (x : StatementView) → IsWrite (kind_in x) → layout_after (standing_of old.sessions).laid.layout (kept_in old.sessions).graph (kept_in old.sessions).graph ≡ (standing_of old.sessions).laid.layout → pending_behind false (standing_of old.sessions).laid (standing_of old.sessions).pending ≡ (standing_of old.sessions).pending
    → (fault : Fault Refusal) → RunsOne x old new (Err fault) → HoldsWrite (λ opens. written_full (standing_in old opens) x) old new (Err fault)
full_fails old new x write layout pending (Refused refusal) runs = λ opens. full_refused (standing_in old opens) x write layout pending refusal runs
full_fails old new x write layout pending (OutOfMemory memory) runs = tt
