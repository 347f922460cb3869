-- What the engine shows once runs are settled.
use Rattle.std.proofs.Common.{◌≡◌, if◌then◌else◌, ℕ, ◌≤◌, ◌==◌, ◌||◌, max, Bool, true, false, not, List, [], ◌∷◌, ◌++◌, length, refl, sym, ap, ◌∙◌, subst, arith}
use Rattle.std.proofs.lemmas.Bool.{false≢true}
use mathlib.Core.List.{reverse}
use Rattle.version_graph.specs.Edges.{is_in}
use Rattle.version_graph.specs.Sets.{Within}
use Rattle.op_law.proofs.OnlyLaws.{by_test}
use Rattle.op_any.specs.Operators.{AnyView}
use Rattle.version_model.specs.Kept.{numbers_in}
use Rattle.db_state.specs.declared.parts.Parts.{Parts}
use Rattle.engine_sessions.specs.WriteUndo.{Undo}
use Rattle.session_tx.specs.Calls.{is_changed, last_number, next_number, IsSettled}
use Rattle.session_tx.specs.Meaning.{Standing as Executed, Unsettled}
use Rattle.engine_sessions.specs.Standing.{Standing as SessionsStanding, kept_in, standing_of}
use Rattle.tx_history.proofs.NumberLaws.{at_most, greater, not_less}
use Rattle.tx_history.proofs.TestLaws.{any_more, any_reverse, chosen_twice, each_turned, either_turned, first_in, is_false, some_there}
use Rattle.engine_transactions.specs.Executing.{has_changes, is_changed_by, HasSettled, HaveNumbers, RunsTo, Shows}
use Rattle.tx_history.specs.History.{dropped_in, history_of, last_change, number_in}
use Rattle.engine_transactions.specs.declared.executing.Executing.{Executing}
use Rattle.tx_history.specs.declared.history.ChangeNumbers.{ChangeNumbers}
use Rattle.tx_history.specs.declared.table_read.TableRead.{TableRead}

-- ---- what runs changed

changed_is : (now : Parts AnyView) (us : List Undo) (s : SessionsStanding) (rs : List (Unsettled SessionsStanding TableRead)) → RunsTo now us s rs → (read : TableRead) → is_changed rs read ≡ is_changed_by us read.table
changed_is now [] s [] h read = refl
changed_is now [] s (r ∷ rs) h read = absurd h
changed_is now (u ∷ us) s [] h read = absurd h
changed_is now (u ∷ us) s (r ∷ rs) h read =
    ap (λ (b : Bool). b || is_changed rs read) (h.1.0.changes read)
    ∙ ap (λ (b : Bool). is_in read.table u.changed || b) (changed_is h.0 us r.before rs h.1.1 read)

any_has : (us : List Undo) (t : ℕ) → is_changed_by us t ≡ true → has_changes us ≡ true
any_has [] t h = absurd (false≢true h)
any_has (u ∷ us) t h =
    by_test (is_in t u.changed)
    (λ e. ap (λ (b : Bool). b || has_changes us) (some_there t u.changed e))
    (λ e. ap (λ (b : Bool). not (length u.changed == 0) || b) (any_has us t (sym (ap (λ (b : Bool). b || is_changed_by us t) e) ∙ h)) ∙ either_turned (not (length u.changed == 0)) true)

has_any : (us : List Undo) → has_changes us ≡ true → (t : ℕ) × (is_changed_by us t ≡ true)
has_any [] h = absurd (false≢true h)
has_any (u ∷ us) h =
    by_test (not (length u.changed == 0))
    (λ e. let one = first_in u.changed e in (one.0, ap (λ (b : Bool). b || is_changed_by us one.0) one.1))
    (λ e. let more = has_any us (sym (ap (λ (b : Bool). b || has_changes us) e) ∙ h) in (more.0, ap (λ (b : Bool). is_in more.0 u.changed || b) more.1 ∙ either_turned (is_in more.0 u.changed) true))

-- where none of the runs gave a table other rows nothing is settled
pub none_settled : (numbers : ChangeNumbers) (us : List Undo) → has_changes us ≡ false → HasSettled numbers us numbers
none_settled numbers us none = record {
  last = sym (ap (λ (b : Bool). if b then next_number numbers.last else numbers.last) none);
  changed = λ t. sym (ap (λ (b : Bool). if b then numbers.last else number_in numbers.changed t) (is_false (is_changed_by us t) (λ e. false≢true (sym none ∙ any_has us t e))));
  dropped = refl;
}

-- one more run gave these tables other rows
pub changed_more : (us : List Undo) (u : Undo) (t last old : ℕ) → (if is_in t u.changed then last else (if is_changed_by us t then last else old)) ≡ (if is_changed_by (us ++ u ∷ []) t then last else old)
changed_more us u t last old =
    chosen_twice (is_changed_by us t) (is_in t u.changed) last old
    ∙ ap (λ (b : Bool). if b then last else old) (sym (any_more (λ (x : Undo). is_in t x.changed) us u))

-- SETTLED: the state stays, and each table that a run gave other rows has the new number
module _ (old new : Executing) (s : Executed SessionsStanding TableRead) (shows : Shows old s) (settled : HasSettled old.numbers old.unsettled.items new.numbers) where
  abbrev us : List Undo
  us = old.unsettled.items

  abbrev next : Executed SessionsStanding TableRead
  next = record { state = s.state; history = new.numbers.last; last = λ read. last_change (history_of new.numbers) read; unsettled = [] }

  by_runs : (read : TableRead) → is_changed s.unsettled read ≡ is_changed_by us read.table
  by_runs read = changed_is (kept_in old.sessions) (reverse us) s.state s.unsettled shows.runs read ∙ any_reverse (λ (u : Undo). is_in read.table u.changed) us

  if_any : has_changes us ≡ true → new.numbers.last ≡ next_number s.history
  if_any h = settled.last ∙ ap (λ (b : Bool). if b then next_number old.numbers.last else old.numbers.last) h ∙ ap next_number (sym shows.history)

  if_none : has_changes us ≡ false → new.numbers.last ≡ s.history
  if_none h = settled.last ∙ ap (λ (b : Bool). if b then next_number old.numbers.last else old.numbers.last) h ∙ sym shows.history

  up : old.numbers.last ≤ new.numbers.last
  up = by_test (has_changes us)
      (λ e. subst (λ (n : ℕ). old.numbers.last ≤ n) (sym (settled.last ∙ ap (λ (b : Bool). if b then next_number old.numbers.last else old.numbers.last) e)) (not_less old.numbers.last shows.within))
      (λ e. subst (λ (n : ℕ). old.numbers.last ≤ n) (sym (settled.last ∙ ap (λ (b : Bool). if b then next_number old.numbers.last else old.numbers.last) e)) (omega arith))

  low : (name : List ℕ) → dropped_in new.numbers.dropped name ≤ new.numbers.last
  low name = subst (λ ds. dropped_in ds name ≤ new.numbers.last) (sym settled.dropped) (omega (arith, shows.dropped name, up))

  pub is_settled : IsSettled s next
  is_settled = record {
    state = refl;
    unsettled = refl;
    rises = λ any. if_any (any_has us any.mark.table (sym (by_runs any.mark) ∙ any.changed));
    stays = λ none. if_none (is_false (has_changes us) (λ h.
        let some = has_any us h in
        none (record { mark = record { version = []; name = []; table = some.0 }; changed = by_runs (record { version = []; name = []; table = some.0 }) ∙ some.1 })));
    changed = λ read h.
        let here : number_in new.numbers.changed read.table ≡ new.numbers.last = settled.changed read.table ∙ ap (λ (b : Bool). if b then new.numbers.last else number_in old.numbers.changed read.table) (sym (by_runs read) ∙ h) in
        ap (λ (n : ℕ). max n (dropped_in new.numbers.dropped read.version)) here ∙ greater new.numbers.last (dropped_in new.numbers.dropped read.version) (low read.version);
    others = λ read h.
        let here : number_in new.numbers.changed read.table ≡ number_in old.numbers.changed read.table = settled.changed read.table ∙ ap (λ (b : Bool). if b then new.numbers.last else number_in old.numbers.changed read.table) (sym (by_runs read) ∙ h) in
        ap (λ (n : ℕ). max n (dropped_in new.numbers.dropped read.version)) here
        ∙ ap (λ ds. max (number_in old.numbers.changed read.table) (dropped_in ds read.version)) settled.dropped
        ∙ sym (shows.last read);
  }

  capped : new.numbers.last ≤ last_number
  capped = by_test (has_changes us)
      (λ e. subst (λ (n : ℕ). n ≤ last_number) (sym (settled.last ∙ ap (λ (b : Bool). if b then next_number old.numbers.last else old.numbers.last) e)) (at_most old.numbers.last))
      (λ e. subst (λ (n : ℕ). n ≤ last_number) (sym (settled.last ∙ ap (λ (b : Bool). if b then next_number old.numbers.last else old.numbers.last) e)) shows.within)

  pub shows_settled : new.sessions ≡ old.sessions → new.unsettled.items ≡ [] → Shows new next
  shows_settled same none = record {
    state = shows.state ∙ ap standing_of (sym same);
    history = refl;
    last = λ read. refl;
    runs = subst (λ (l : List Undo). RunsTo (kept_in new.sessions) (reverse l) s.state []) (sym none) tt;
    numbers = subst (λ (l : List Undo). HaveNumbers (numbers_in new.numbers.changed) (reverse l)) (sym none) tt;
    dropped = low;
    within = capped;
  }

pub have_turned : (tables : List ℕ) (us : List Undo) → HaveNumbers tables (reverse us) → HaveNumbers tables us
have_turned tables us h = each_turned (λ (u : Undo). Within u.changed tables) us h
