-- A kept write means what it means outside a transaction.
use Rattle.std.specs.Prelude.{Ok, Err}
use Rattle.std.proofs.Common.{◌≡◌, ℕ, refl, sym, ap, ◌∙◌, subst}
use Rattle.par_base.specs.Checked.{Checked, ◌then◌}
use Rattle.statements.specs.Views.{StatementView}
use Rattle.engine_state.specs.AnyDatabase.{AnyDatabase}
use Rattle.engine_state.specs.declared.reply.Reply.{Reply}
use Rattle.engine_state.specs.declared.reply.WriteReply.{WriteReply}
use Rattle.engine_transactions.specs.EngineCoreUndo.{acted_write}
use Rattle.engine_transactions.specs.Accesses.{accessed, raised}
use Rattle.engine_transactions.specs.EngineSessionsAct.{act as act_beside}
use Rattle.engine_transactions.specs.EngineSessionsStanding.{Standing as SessionsStanding}
use Rattle.engine_transactions.specs.Answer.{Answer}
use Rattle.engine_transactions.specs.Changed.{has_changed}
use Rattle.engine_transactions.specs.Meaning.{means, write_reply}
use Rattle.engine_transactions.specs.Serial.{answer_to}
use Rattle.transaction_laws.specs.Laws.{IsFullWrite, SameButCounts, WritesMeanAsOutside}
use Rattle.transaction_laws.specs.Orderly.{IsOrderly}
use Rattle.transaction_laws.proofs.ActLemmas.{moving_of}
use Rattle.transaction_laws.proofs.PlanLemmas.{in_session, write_outside, written_is}
use Rattle.transaction_laws.proofs.TellLemmas.{Run, answering, beside, has_run, table_of, write_told}

module _ (s : SessionsStanding) (x : StatementView) (is : IsOrderly s) where
  -- what the data answer, as a run
  abbrev run_of : Checked (Reply × AnyDatabase) → Checked Run
  run_of m =
      (m then λ (answer : Reply × AnyDatabase). Ok (answer.0, record s { laid = record s.laid { database = answer.1 } })) then λ (answer : Reply × SessionsStanding).
      write_reply answer.0 then λ reply. Ok (record { done = reply; next = answer.1; changes = λ read. has_changed s.laid.database answer.1.laid.database read.table })

  -- an accepted one
  accepted_same : (run : Run) → means s x ≡ Ok run → SameButCounts (means s x) (act_beside s x)
  accepted_same run e =
      let ran = has_run s x run e in
      let next = beside run.next (raised s.counts (table_of ran)) s.session in
      let outside : act_beside s x ≡ answering (answer_to run.done) next = write_told s (moving_of s is) x run ran s.session s.counts is.counts in
      let at_hand : s.session ≡ run.next.session = ap (λ (n : SessionsStanding). n.session) (sym ran.leaves) in
      let same : SameButCounts (Ok run) (answering (answer_to run.done) next) = (refl, ap (λ (n : ℕ). record run.next { session = n }) at_hand) in
      let mean : SameButCounts (means s x) (answering (answer_to run.done) next) = subst (λ (m : Checked Run). SameButCounts m (answering (answer_to run.done) next)) (sym e) same in
      subst (λ (m : Checked (Answer × SessionsStanding)). SameButCounts (means s x) m) (sym outside) mean

  same_by : IsFullWrite x → (m : Checked (Reply × AnyDatabase)) → acted_write s.laid.database x ≡ m → SameButCounts (means s x) (act_beside s x)
  same_by write (Ok answer) e =
      let written = written_is s.laid.database x answer e in
      let last : SessionsStanding = record s { laid = record s.laid { database = answer.1 } } in
      let run : Run = record { done = written.planned.done; next = last; changes = λ read. has_changed s.laid.database answer.1 read.table } in
      let told : run_of (Ok answer) ≡ Ok run = ap (λ (r : Checked WriteReply). r then λ reply. Ok (record run { done = reply })) written.replies in
      accepted_same run (ap run_of e ∙ told)
  same_by write (Err refusal) e =
      let mean : means s x ≡ run_of (Err refusal) = ap run_of e in
      let outside : act_beside s x ≡ in_session s (accessed s.laid.database x) (Err refusal) = write_outside s x write ∙ ap (λ (m : Checked (Reply × AnyDatabase)). in_session s (accessed s.laid.database x) m) e in
      let same : SameButCounts (means s x) (in_session s (accessed s.laid.database x) (Err refusal)) = subst (λ (m : Checked Run). SameButCounts m (in_session s (accessed s.laid.database x) (Err refusal))) (sym mean) refl in
      subst (λ (m : Checked (Answer × SessionsStanding)). SameButCounts (means s x) m) (sym outside) same

pub writes_mean : WritesMeanAsOutside
writes_mean s x is write = same_by s x is write (acted_write s.laid.database x) refl
