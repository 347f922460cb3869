-- What the engine shows after a write, after one that is taken back, and after an error.
use Rattle.std.proofs.Common.{◌≡◌, ℕ, ◌≤◌, max, length, arith, List, [], ◌∷◌, ◌++◌, Ok, Err, sym, ap, ◌∙◌, subst}
use Rattle.std.proofs.lemmas.List.{reverse-append}
use mathlib.Core.List.{reverse}
use Rattle.par_base.specs.Checked.{Checked, ◌then◌}
use Rattle.par_base.specs.declared.fault.Fault.{Fault}
use Rattle.par_base.specs.declared.fault.Fault.TheVariants.{Memory, Refused}
use Rattle.par_base.specs.declared.refusal.Refusal.{Refusal}
use Rattle.statements.specs.Views.{StatementView, statement_view}
use Rattle.statements.specs.declared.statement.Statement.{Statement}
use Rattle.layout_rules.specs.declared.layout.Layout.{Layout}
use Rattle.version_graph.specs.Edges.{Drawn, is_in}
use Rattle.version_graph.specs.Sets.{Within}
use Rattle.version_graph.proofs.SetLaws.{each_more}
use Rattle.op_any.specs.BuiltOn.{AreBuiltOn}
use Rattle.op_any.specs.Operators.{AnyView, any_meaning}
use Rattle.version_model.specs.Kept.{numbers_in}
use Rattle.db_state.specs.declared.parts.Parts.{Parts}
use Rattle.engine_sessions.specs.Capacity.{HoldsAsMuch, HoldsAtLeast}
use Rattle.engine_sessions.specs.Plans.{IsSame}
use Rattle.engine_sessions.specs.WritesUndone.{IsAgain, Restores, StaysUndoable, Undoes}
use Rattle.engine_sessions.specs.WriteUndo.{Undo}
use Rattle.engine_sessions.proofs.HoldLaws.{holds_enough, holds_more}
use Rattle.session_tx.specs.Calls.{after_run, before_runs, last_number, taken_back, LeadsRun}
use Rattle.session_tx.specs.Meaning.{Ran, Standing as Executed, Unsettled}
use Rattle.engine_state.specs.declared.reply.Reply.{Reply}
use Rattle.engine_state.specs.declared.reply.WriteReply.{WriteReply}
use Rattle.engine_state.specs.AnyDatabase.{AnyDatabase}
use Rattle.engine_sessions.specs.EngineCoreKept.{data_of, state_of}
use Rattle.engine_sessions.specs.Laid.{Laid}
use Rattle.engine_sessions.specs.EngineCoreUndo.{AnswersWrite, TellsTables}
use Rattle.engine_sessions.specs.Act.{written_in}
use Rattle.engine_sessions.specs.Standing.{Standing as SessionsStanding, kept_in, standing_of}
use Rattle.engine_sessions.specs.declared.sessions.Sessions.{Sessions}
use Rattle.engine_transactions.specs.Executing.{HaveNumbers, RunsTo, Shows}
use Rattle.tx_history.specs.History.{dropped_in, history_of, last_change, number_in}
use Rattle.engine_transactions.specs.Changed.{has_changed}
use Rattle.engine_transactions.specs.Leads.{Leads}
use Rattle.engine_transactions.specs.Meaning.{means, means_kept, write_reply}
use Rattle.engine_transactions.proofs.RowLemmas.{told}
use Rattle.engine_transactions.specs.declared.executing.Executing.{Executing}
use Rattle.tx_history.specs.declared.history.ChangeNumbers.{ChangeNumbers}
use Rattle.tx_history.specs.declared.table_read.TableRead.{TableRead}

-- the runs lead back from every database that has the same rows and holds at least as much
pub runs_stay : StaysUndoable any_meaning → (now again : Parts AnyView) → IsSame now again → HoldsAtLeast now again → (us : List Undo) (s : SessionsStanding) (rs : List (Unsettled SessionsStanding TableRead)) → RunsTo now us s rs → RunsTo again us s rs
runs_stay stay now again same holds [] s [] h = tt
runs_stay stay now again same holds [] s (r ∷ rs) h = absurd h
runs_stay stay now again same holds (u ∷ us) s [] h = absurd h
runs_stay stay now again same holds (u ∷ us) s (r ∷ rs) h = (
  h.0,
  (
    record {
      undoes = stay h.0 now again u h.1.0.undoes same holds;
      holds = holds_more h.0 now again h.1.0.holds holds;
      built = subst (λ (d : Drawn AnyView). AreBuiltOn u.ids.next d.edges) (sym same.graph) h.1.0.built;
      stood = h.1.0.stood;
      changes = h.1.0.changes;
      leads = h.1.0.leads;
    },
    h.1.1,
  ),
)

-- the same numbers, whatever tables have one besides
pub record SameNumbers (old new : ChangeNumbers) : Type 0 where
  pub last : new.last ≡ old.last
  pub changed : (t : ℕ) → number_in new.changed t ≡ number_in old.changed t
  pub more : Within (numbers_in old.changed) (numbers_in new.changed)
  pub dropped : new.dropped ≡ old.dropped

pub same_change : (old new : ChangeNumbers) → SameNumbers old new → (read : TableRead) → last_change (history_of new) read ≡ last_change (history_of old) read
same_change old new same read =
    ap (λ (n : ℕ). max n (dropped_in new.dropped read.version)) (same.changed read.table)
    ∙ ap (λ ds. max (number_in old.changed read.table) (dropped_in ds read.version)) same.dropped

pub numbers_stay : (old new : List ℕ) (us : List Undo) → Within old new → HaveNumbers old us → HaveNumbers new us
numbers_stay old new us more have = each_more (λ (u : Undo). Within u.changed old) (λ (u : Undo). Within u.changed new) (λ u h t i. more t (h t i)) us have

-- AFTER AN ERROR: the same is shown where the sessions show the same, over a database that has the same rows and holds at least as much
pub shows_again : StaysUndoable any_meaning → (old new : Executing) (s : Executed SessionsStanding TableRead) → standing_of new.sessions ≡ standing_of old.sessions → IsSame (kept_in old.sessions) (kept_in new.sessions) → HoldsAtLeast (kept_in old.sessions) (kept_in new.sessions)
    → SameNumbers old.numbers new.numbers → new.unsettled.items ≡ old.unsettled.items → Shows old s → Shows new s
shows_again stay old new s standing same holds numbers unsettled h = record {
  state = h.state ∙ sym standing;
  history = h.history ∙ sym numbers.last;
  last = λ read. h.last read ∙ sym (same_change old.numbers new.numbers numbers read);
  runs =
      subst (λ (us : List Undo). RunsTo (kept_in new.sessions) (reverse us) s.state s.unsettled) (sym unsettled)
      (runs_stay stay (kept_in old.sessions) (kept_in new.sessions) same holds (reverse old.unsettled.items) s.state s.unsettled h.runs);
  numbers =
      subst (λ (us : List Undo). HaveNumbers (numbers_in new.numbers.changed) (reverse us)) (sym unsettled)
      (numbers_stay (numbers_in old.numbers.changed) (numbers_in new.numbers.changed) (reverse old.unsettled.items) numbers.more h.numbers);
  dropped = λ name. subst (λ ds. dropped_in ds name ≤ new.numbers.last) (sym numbers.dropped) (subst (λ (n : ℕ). dropped_in old.numbers.dropped name ≤ n) (sym numbers.last) (h.dropped name));
  within = subst (λ (n : ℕ). n ≤ last_number) (sym numbers.last) h.within;
}

-- the state that is there again
pub again_state : (before again : Parts AnyView) → IsAgain any_meaning before again → state_of again ≡ state_of before
again_state before again is =
    let laid : AnyDatabase → List ℕ → Laid = λ d l. record { database = d; layout = l } in
    ap (λ (d : AnyDatabase). laid d again.layout.operators) is.database ∙ ap (λ (l : Layout). laid (data_of before) l.operators) is.same.layout

-- what sessions show once a write is taken back
pub standing_again : (first written again : Sessions) → standing_of written ≡ record (standing_of first) { laid = state_of (kept_in written) } → standing_of again ≡ record (standing_of written) { laid = state_of (kept_in again) } → IsAgain any_meaning (kept_in first) (kept_in again) → standing_of again ≡ standing_of first
standing_again first written again one two is =
    two
    ∙ ap (λ (s : SessionsStanding). record s { laid = state_of (kept_in again) }) one
    ∙ ap (λ (l : Laid). record (standing_of first) { laid = l }) (again_state (kept_in first) (kept_in again) is)

-- ---- after a write

-- AFTER A WRITE: what takes it back stands before the other runs
pub shows_run : (old new : Executing) (s : Executed SessionsStanding TableRead) (undo : Undo) (ran : Ran SessionsStanding TableRead WriteReply) → ran.next ≡ standing_of new.sessions → standing_of new.sessions ≡ record (standing_of old.sessions) { laid = state_of (kept_in new.sessions) }
    → ((read : TableRead) → ran.changes read ≡ is_in read.table undo.changed) → Undoes any_meaning (kept_in old.sessions) (kept_in new.sessions) undo → HoldsAtLeast (kept_in old.sessions) (kept_in new.sessions) → AreBuiltOn undo.ids.next (kept_in new.sessions).graph.edges
    → Leads (standing_of old.sessions).laid.database (standing_of new.sessions).laid.database undo → SameNumbers old.numbers new.numbers → Within undo.changed (numbers_in new.numbers.changed) → new.unsettled.items ≡ old.unsettled.items ++ undo ∷ [] → Shows old s → Shows new (after_run s ran)
shows_run old new s undo ran next beside changes undoes holds built leads numbers kept behind h =
    let turned : reverse new.unsettled.items ≡ undo ∷ reverse old.unsettled.items = ap reverse behind ∙ reverse-append old.unsettled.items (undo ∷ []) in
    let before : s.state ≡ record ran.next { laid = state_of (kept_in old.sessions) } =
    h.state ∙ ap (λ (x : SessionsStanding). record x { laid = state_of (kept_in old.sessions) }) (sym (next ∙ beside)) in
    let led : Leads s.state.laid.database ran.next.laid.database undo =
    subst (λ (x : SessionsStanding). Leads x.laid.database ran.next.laid.database undo) (sym h.state)
    (subst (λ (y : SessionsStanding). Leads (standing_of old.sessions).laid.database y.laid.database undo) (sym next) leads) in
    record {
      state = next;
      history = h.history ∙ sym numbers.last;
      last = λ read. h.last read ∙ sym (same_change old.numbers new.numbers numbers read);
      runs =
          subst (λ (us : List Undo). RunsTo (kept_in new.sessions) us ran.next (after_run s ran).unsettled) (sym turned)
          (kept_in old.sessions, (record { undoes = undoes; holds = holds; built = built; stood = before; changes = changes; leads = led }, h.runs));
      numbers =
          subst (λ (us : List Undo). HaveNumbers (numbers_in new.numbers.changed) us) (sym turned)
          (kept, numbers_stay (numbers_in old.numbers.changed) (numbers_in new.numbers.changed) (reverse old.unsettled.items) numbers.more h.numbers);
      dropped = λ name. subst (λ ds. dropped_in ds name ≤ new.numbers.last) (sym numbers.dropped) (subst (λ (n : ℕ). dropped_in old.numbers.dropped name ≤ n) (sym numbers.last) (h.dropped name));
      within = subst (λ (n : ℕ). n ≤ last_number) (sym numbers.last) h.within;
    }

-- ---- after a write is taken back

module _ (stay : StaysUndoable any_meaning) (old new : Executing) (u : Undo) (restores : Restores any_meaning (kept_in old.sessions) u (kept_in new.sessions)) (much : HoldsAsMuch (kept_in old.sessions) (kept_in new.sessions))
    (beside : standing_of new.sessions ≡ record (standing_of old.sessions) { laid = state_of (kept_in new.sessions) }) (numbers : new.numbers ≡ old.numbers) where
  turned : old.unsettled.items ≡ new.unsettled.items ++ u ∷ [] → reverse old.unsettled.items ≡ u ∷ reverse new.unsettled.items
  turned behind = ap reverse behind ∙ reverse-append new.unsettled.items (u ∷ [])

  back : (s : Executed SessionsStanding TableRead) (rs : List (Unsettled SessionsStanding TableRead)) → 1 ≤ length rs → Shows old s → RunsTo (kept_in old.sessions) (u ∷ reverse new.unsettled.items) s.state rs → HaveNumbers (numbers_in old.numbers.changed) (u ∷ reverse new.unsettled.items) → Shows new (before_runs s rs)
  back s [] some h runs have = absurd (omega (arith, some))
  back s (r ∷ rs) some h runs have =
      let again = restores runs.0 runs.1.0.undoes in
      let holds = holds_more runs.0 (kept_in old.sessions) (kept_in new.sessions) runs.1.0.holds (holds_enough (kept_in old.sessions) (kept_in new.sessions) much) in
      record {
        state =
            runs.1.0.stood
            ∙ ap (λ (l : Laid). record s.state { laid = l }) (sym (again_state runs.0 (kept_in new.sessions) again))
            ∙ ap (λ (x : SessionsStanding). record x { laid = state_of (kept_in new.sessions) }) h.state
            ∙ sym beside;
        history = h.history ∙ ap (λ (n : ChangeNumbers). n.last) (sym numbers);
        last = λ read. h.last read ∙ ap (λ (n : ChangeNumbers). last_change (history_of n) read) (sym numbers);
        runs = runs_stay stay runs.0 (kept_in new.sessions) again.same holds (reverse new.unsettled.items) r.before rs runs.1.1;
        numbers = subst (λ (n : ChangeNumbers). HaveNumbers (numbers_in n.changed) (reverse new.unsettled.items)) (sym numbers) have.1;
        dropped = λ name. subst (λ (n : ChangeNumbers). dropped_in n.dropped name ≤ n.last) (sym numbers) (h.dropped name);
        within = subst (λ (n : ChangeNumbers). n.last ≤ last_number) (sym numbers) h.within;
      }

  pub shows_back : (s : Executed SessionsStanding TableRead) → old.unsettled.items ≡ new.unsettled.items ++ u ∷ [] → Shows old s → 1 ≤ length s.unsettled → Shows new (taken_back s)
  shows_back s behind h some =
      back s s.unsettled some h (subst (λ (us : List Undo). RunsTo (kept_in old.sessions) us s.state s.unsettled) (turned behind) h.runs)
      (subst (λ (us : List Undo). HaveNumbers (numbers_in old.numbers.changed) us) (turned behind) h.numbers)

-- ---- a run

-- AFTER AN ERROR BEHIND A WRITE: the write is taken back, and the same is shown as before it
pub again_back : StaysUndoable any_meaning → (old new : Executing) (s : Executed SessionsStanding TableRead) (written : Sessions) (undo : Undo) → Undoes any_meaning (kept_in old.sessions) (kept_in written) undo → HoldsAtLeast (kept_in old.sessions) (kept_in written) → standing_of written ≡ record (standing_of old.sessions) { laid = state_of (kept_in written) }
    → Restores any_meaning (kept_in written) undo (kept_in new.sessions) → HoldsAsMuch (kept_in written) (kept_in new.sessions) → standing_of new.sessions ≡ record (standing_of written) { laid = state_of (kept_in new.sessions) }
    → SameNumbers old.numbers new.numbers → new.unsettled.items ≡ old.unsettled.items → Shows old s → Shows new s
again_back stay old new s written undo undoes holds one restores much two numbers unsettled h =
    let is = restores (kept_in old.sessions) undoes in
    shows_again stay old new s (standing_again old.sessions written new.sessions one two is) is.same
    (holds_more (kept_in old.sessions) (kept_in written) (kept_in new.sessions) holds (holds_enough (kept_in written) (kept_in new.sessions) much)) numbers unsettled h

-- what a reply and the next standing give
abbrev pub made_of : SessionsStanding → Reply × SessionsStanding → WriteReply → Ran SessionsStanding TableRead WriteReply
made_of s answer reply = record { done = reply; next = answer.1; changes = λ read. has_changed s.laid.database answer.1.laid.database read.table }

pub meant : (s : SessionsStanding) (x : StatementView) (answer : Reply × SessionsStanding) (reply : Checked WriteReply) → written_in s x ≡ Ok answer → write_reply answer.0 ≡ reply → means s x ≡ (reply then λ r. Ok (made_of s answer r))
meant s x answer reply written is =
    ap (λ (m : Checked (Reply × SessionsStanding)). m then λ a. write_reply a.0 then λ r. Ok (made_of s a r)) written
    ∙ ap (λ (m : Checked WriteReply). m then λ r. Ok (made_of s answer r)) is

-- a write that came to an error
pub run_fails : (Stands : Executed SessionsStanding TableRead → Type 0) (s : Executed SessionsStanding TableRead) (write : Statement) (next : SessionsStanding) (fault : Fault Refusal) → AnswersWrite (written_in s.state (statement_view write)) (Err fault) next → Stands s → LeadsRun Stands means_kept s write (Err fault)
run_fails Stands s write next (Refused r) answers stands =
    (ap (λ (m : Checked (Reply × SessionsStanding)). m then λ a. write_reply a.0 then λ w. Ok (made_of s.state a w)) answers, stands)
run_fails Stands s write next (Memory m) answers stands = stands

-- the run tells what it changed
pub tells_run : (old written : Sessions) (state : SessionsStanding) (undo : Undo) → state ≡ standing_of old → TellsTables (data_of (kept_in old)) (data_of (kept_in written)) undo.changed → (read : TableRead) → has_changed state.laid.database (standing_of written).laid.database read.table ≡ is_in read.table undo.changed
tells_run old written state undo same tells read =
    ap (λ (x : SessionsStanding). has_changed x.laid.database (standing_of written).laid.database read.table) same
    ∙ told ((data_of (kept_in old)).state.tables read.table) ((data_of (kept_in written)).state.tables read.table) (is_in read.table undo.changed) (tells read.table)
