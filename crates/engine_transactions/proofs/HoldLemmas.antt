-- The two halves of an event that writes rows.
use Rattle.std.proofs.Common.{◌≡◌, ℕ, ◌-◌, true, false, List, [], ◌∷◌, Option, Some, None, Result, Ok, Err, refl, sym, ap, subst, ◌∙◌}
use Rattle.std.specs.Prelude.{OnErr}
use Rattle.std.proofs.lemmas.Bool.{false≢true}
use Rattle.par_base.specs.Checked.{Checked}
use Rattle.par_base.specs.declared.fault.Fault.{Fault}
use Rattle.par_base.specs.declared.fault.Fault.TheVariants.{Refused, Memory as OutOfMemory}
use Rattle.par_base.specs.declared.refusal.Refusal.{Refusal}
use Rattle.statements.specs.Views.{StatementView}
use Rattle.layout_planner.specs.declared.planning.TableCount.{TableCount}
use Rattle.session_tx.specs.declared.commit_fault.CommitFault.{CommitFault}
use Rattle.engine_state.specs.AnyDatabase.{AnyDatabase}
use Rattle.engine_state.specs.declared.reply.Reply.TheVariants.{Kept as KeptReply}
use Rattle.engine_sessions.specs.Calls.{IsAnswer}
use Rattle.engine_sessions.specs.Standing.{standing_of as standing_beside}
use Rattle.engine_sessions.specs.declared.answer.Answer.{Answer}
use Rattle.engine_sessions.specs.declared.answer.Answer.TheVariants.{Plain}
use Rattle.engine_transactions.specs.Act.{act, at_once, committed, committed_as, Answers}
use Rattle.engine_transactions.specs.Calls.{standing_in, standing_of, IsIdle, Keeps}
use Rattle.engine_transactions.specs.Held.{Holds, HoldsAs, IsBack, IsHeld, IsRun, Settles}
use Rattle.engine_transactions.specs.ByKind.{acted_by}
use Rattle.tx_history.specs.Kinds.{kind_in, writes_rows_in}
use Rattle.engine_transactions.specs.Leads.{LeadAlong, committed_data, data_behind, data_left, open_data}
use Rattle.tx_history.specs.Opens.{opens_view, with_changed, without_last}
use Rattle.engine_transactions.specs.Runs.{alone, settled_in, AreBack, AreRun, AreSettled, HaveRun, HoldsOpen, HoldsWrite, Runs}
use Rattle.tx_history.specs.Views.{OpenView, TransactionView, without_open}
use Rattle.engine_transactions.specs.Standing.{Standing}
use Rattle.engine_transactions.specs.declared.executing.Executing.{Executing}
use Rattle.engine_transactions.specs.declared.held.Held.{Held}
use Rattle.engine_transactions.specs.declared.held.Held.TheVariants as held
use Rattle.engine_transactions.specs.declared.held.HeldRuns.{HeldRuns}
use Rattle.engine_transactions.specs.declared.kept.Kept.{Kept}
use Rattle.tx_history.specs.declared.statement_kind.StatementKind.{StatementKind}
use Rattle.tx_history.specs.declared.statement_kind.StatementKind.TheVariants as kind
use Rattle.engine_transactions.proofs.CommitLemmas.{keeps_same, keeps_so}
use Rattle.engine_transactions.proofs.KindLemmas.{act_by_kind}
use Rattle.engine_transactions.proofs.LeadLemmas.{leads_along}
use Rattle.engine_transactions.proofs.RunLemmas.{run_graph}

abbrev answered : Answer → Standing → Checked (Answer × Standing)
answered answer next = Ok (answer, next)

-- ---- holding

-- a write outside a transaction
module _ (old : Kept) (now : Executing) (x : StatementView) where
  abbrev s : Standing
  s = standing_of old

  abbrev left : Kept
  left = record { executing = now; opens = old.opens }

  abbrev once : Standing → List AnyDatabase
  once next = next.sessions.laid.database ∷ []

  pub outside_held : (runs : HeldRuns) → HoldsWrite (λ opens. at_once (standing_in old.executing opens) x) old.executing now (Ok runs) → Holds (at_once s x) (λ next. once next) old (held.Write runs) left
  outside_held runs holds = record {
    next = settled_in s (holds.ran ∷ []) runs.counts s.opens;
    acts = holds.acts s.opens;
    prints = holds.prints;
    leads = leads_along (alone holds.written) old.executing now (holds.ran ∷ []) holds.run;
    graph = run_graph (alone holds.written) old.executing now (holds.ran ∷ []) holds.run;
    left = record { transaction = alone holds.written; runs = holds.ran ∷ []; run = holds.run; opens = refl; stands = refl };
  }

  pub outside_fails : (fault : Fault Refusal) → HoldsWrite (λ opens. at_once (standing_in old.executing opens) x) old.executing now (Err fault) → HoldsAs (at_once s x) (λ next. once next) old (Err fault) left
  outside_fails (Refused refusal) holds = holds s.opens
  outside_fails (OutOfMemory memory) holds = tt

-- a COMMIT
module _ (old : Kept) (now : Executing) (session : ℕ) (own : session ≡ (standing_beside old.executing.sessions).session) where
  abbrev at : Standing
  at = standing_of old

  abbrev behind : Kept
  behind = record { executing = now; opens = old.opens }

  some_held : (o : OpenView) (runs : HeldRuns) → HoldsOpen (Some o) old.executing now (Ok runs) → Holds (committed at (Some o)) (λ next. open_data at (Some o)) old (held.Commit session runs) behind
  some_held o runs holds =
      let t = o.transaction in
      let gives = sym holds.answer in
      let counts = sym holds.counts in
      let here = sym own in
      record {
        next = settled_in at holds.runs runs.counts (without_open at.opens session);
        acts =
            ap (λ (r : Result Runs CommitFault). committed_as at t r) holds.run.commits
            ∙ (λ i. answered (gives i) (settled_in at holds.runs (counts i) (without_open at.opens (here i))));
        prints = subst IsAnswer gives tt;
        leads =
            subst (λ (r : Result Runs CommitFault). LeadAlong at.sessions.laid.database (committed_data r) now.unsettled.items) (sym holds.run.commits)
            (leads_along t old.executing now holds.runs holds.run);
        graph = run_graph t old.executing now holds.runs holds.run;
        left = record { transaction = t; runs = holds.runs; run = holds.run; opens = refl; stands = refl };
      }

  pub commit_held : (o : Option OpenView) (runs : HeldRuns) → HoldsOpen o old.executing now (Ok runs) → Holds (committed at o) (λ next. open_data at o) old (held.Commit session runs) behind
  commit_held (Some o) runs holds = some_held o runs holds
  commit_held None runs holds = absurd holds

  pub commit_fails : (o : Option OpenView) (fault : Fault Refusal) → HoldsOpen o old.executing now (Err fault) → HoldsAs (committed at o) (λ next. open_data at o) old (Err fault) behind
  commit_fails (Some o) (Refused refusal) holds =
      ap (λ (r : Result Runs CommitFault). committed_as at o.transaction r) holds.commits
      ∙ ap (λ (r : Refusal). Err r) (sym holds.tells)
  commit_fails None (Refused refusal) holds = ap (λ (r : Refusal). Err r) (sym holds)
  commit_fails (Some o) (OutOfMemory memory) holds = tt
  commit_fails None (OutOfMemory memory) holds = tt

-- by what the statement is
pub held_as : (old : Kept) (x : StatementView) (k : StatementKind) (result : Result Held (Fault Refusal)) (now : Kept) → kind_in x ≡ k → HoldsAs (acted_by k (standing_of old) x) (λ next. data_left k (standing_of old) next) old result now → HoldsAs (act (standing_of old) x) (data_behind (standing_of old) x) old result now
held_as old x k result now is holds =
    subst (λ (m : Checked (Answer × Standing)). HoldsAs m (data_behind (standing_of old) x) old result now) (sym (act_by_kind (standing_of old) x))
    (subst (λ (j : StatementKind). HoldsAs (acted_by j (standing_of old) x) (λ next. data_left j (standing_of old) next) old result now) (sym is) holds)

-- what writes rows and is no COMMIT
pub other_write : (k : StatementKind) → writes_rows_in k ≡ true → (k ≡ kind.Commit → ⊥) → k ≡ kind.Write
other_write kind.Write writes other = refl
other_write kind.Commit writes other = absurd (other refl)
other_write kind.Begin writes other = absurd (false≢true writes)
other_write kind.Rollback writes other = absurd (false≢true writes)
other_write kind.Select writes other = absurd (false≢true writes)
other_write kind.Other writes other = absurd (false≢true writes)

-- an error of the first half is that of the event
pub held_fails : (model : Checked (Answer × Standing)) (datas : Standing → List AnyDatabase) (old now : Kept) (fault : Fault Refusal) → HoldsAs model datas old (Err fault) now → Answers model (Err fault) (standing_of now)
held_fails model datas old now (Refused refusal) holds = holds
held_fails model datas old now (OutOfMemory memory) holds = tt

-- what leaves the standing keeps operators and the greatest identifier
pub keeps_held : (old new : Kept) (x : StatementView) (result : Result Held (Fault Refusal)) → OnErr result (standing_of new ≡ standing_of old) → OnErr result (Keeps x old.executing new.executing)
keeps_held old new x (Ok held) same = tt
keeps_held old new x (Err fault) same = keeps_so old.executing new.executing x (ap (λ (s : Standing). s.sessions) same)

-- ---- afterwards

-- a write that is kept
pub kept_stays : (model : Checked (Answer × Standing)) (datas : Standing → List AnyDatabase) (old now : Kept) (session : ℕ) → Holds model datas old (held.Kept session) now → Settles model old (Plain KeptReply) now
kept_stays model datas old now session h = record {
  answers = h.acts ∙ ap (λ (n : Standing). answered (Plain KeptReply) n) h.left.stands;
  prints = h.prints;
  keeps = λ x. keeps_so old.executing now.executing x (ap (λ (e : Executing). standing_beside e.sessions) h.left.engine);
  idle = subst IsIdle (sym h.left.engine) h.left.idle;
}

pub kept_returns : (model : Checked (Answer × Standing)) (datas : Standing → List AnyDatabase) (old now new : Kept) (session : ℕ) → Holds model datas old (held.Kept session) now → new.executing ≡ now.executing → opens_view new.opens.items ≡ with_changed (opens_view now.opens.items) session without_last → IsBack old new
kept_returns model datas old now new session h same gone =
    let engine = same ∙ h.left.engine in
    let opens = gone ∙ h.left.back in
    record {
      same = λ i. standing_in (engine i) (opens i);
      keeps = λ x. keeps_so old.executing new.executing x (ap (λ (e : Executing). standing_beside e.sessions) engine);
      idle = subst IsIdle (sym engine) h.left.idle;
    }

module _ (old now new : Kept) where
  -- runs that are settled
  pub runs_stay : (model : Checked (Answer × Standing)) (answer : Answer) (counts : List TableCount) (after : List OpenView) (next : Standing) → model ≡ Ok (answer, next) → IsAnswer answer → IsRun old counts after now next
      → ((t : TransactionView) → (o : Executing) → (runs : Runs) → AreRun t o now.executing runs → AreSettled o new.executing runs counts) → opens_view new.opens.items ≡ after → Settles model old answer new
  runs_stay model answer counts after next acts prints run settles leaves =
      let done = settles run.transaction old.executing run.runs run.run in
      let sessions = sym done.sessions in
      let history = sym done.history in
      let opens = sym leaves in
      record {
        answers = acts ∙ ap (λ (n : Standing). answered answer n) run.stands ∙ (λ i. answered answer (record { sessions = sessions i; history = history i; opens = opens i }));
        prints = prints;
        keeps = done.keeps;
        idle = done.idle;
      }

  -- runs that are taken back
  pub runs_return : (counts : List TableCount) (after : List OpenView) (next : Standing) → IsRun old counts after now next
      → ((t : TransactionView) → (o : Executing) → (runs : Runs) → AreRun t o now.executing runs → AreBack o new.executing) → new.opens ≡ now.opens → IsBack old new
  runs_return counts after next run returns same =
      let back = returns run.transaction old.executing run.runs run.run in
      record {
        same =
            ap (λ os. standing_in new.executing (opens_view os.items)) (same ∙ run.opens)
            ∙ back.same (opens_view old.opens.items);
        keeps = λ x. keeps_same old.executing new.executing x back.same;
        idle = back.idle;
      }

pub write_has_run : (held_runs : HeldRuns) (now : Kept) → IsHeld (held.Write held_runs) now → HaveRun now.executing
write_has_run held_runs now h =
    let l = h.1.1.1.left in
    (l.transaction, (h.1.1.0.executing, (l.runs, l.run)))

pub commit_has_run : (session : ℕ) (held_runs : HeldRuns) (now : Kept) → IsHeld (held.Commit session held_runs) now → HaveRun now.executing
commit_has_run session held_runs now h =
    let l = h.1.1.1.left in
    (l.transaction, (h.1.1.0.executing, (l.runs, l.run)))
