-- What settled runs leave.
use Rattle.std.specs.List.{list_any}
use Rattle.std.proofs.Common.{◌≡◌, if◌then◌else◌, ℕ, ◌||◌, max, Bool, true, false, List, [], ◌∷◌, ◌++◌, map, inl, inr, Result, Ok, Err, refl, sym, ap, subst, ◌∙◌, arith}
use Rattle.std.proofs.lemmas.Bool.{false≢true}
use Rattle.std.proofs.lemmas.List.{reverse-append}
use mathlib.Core.List.{reverse}
use Rattle.par_base.specs.declared.refusal.Refusal.{Refusal}
use Rattle.statements.specs.Views.{StatementView, statement_view}
use Rattle.statements.specs.declared.statement.Statement.{Statement}
use Rattle.version_graph.specs.Sets.{In}
use Rattle.version_graph.specs.Tables.{table_numbers}
use Rattle.version_graph.specs.Edges.{AreEdges, Drawn, is_in, made}
use Rattle.version_graph.proofs.SetLaws.{in_left, in_of_test, in_right, is_in_true}
use Rattle.op_law.proofs.OnlyLaws.{by_test}
use Rattle.op_any.specs.Operators.{AnyView}
use Rattle.version_model.specs.Kept.{numbers_in}
use Rattle.db_state.specs.declared.parts.Parts.{Parts}
use Rattle.engine_sessions.specs.WriteUndo.{Undo}
use Rattle.session_tx.specs.Calls.{after_run, is_changed, next_number, IsSettled}
use Rattle.session_tx.specs.Commits.{after_runs, commit, read_fault, running, runs_of, unless, with_runs}
use Rattle.session_tx.specs.Meaning.{Ran, Standing as Executed}
use Rattle.session_tx.specs.Serial.{end_of}
use Rattle.session_tx.specs.Transactions.{TransactionState}
use Rattle.session_tx.proofs.FreshLaws.{after_history, after_last}
use Rattle.engine_state.specs.declared.reply.WriteReply.{WriteReply}
use Rattle.engine_sessions.specs.KeptTexts.{texts_of}
use Rattle.engine_sessions.specs.Spoken.{operators_in}
use Rattle.engine_sessions.specs.Standing.{Standing as SessionsStanding, kept_in, standing_of}
use Rattle.engine_transactions.specs.Calls.{executed, IsIdle, IsSame, Keeps}
use Rattle.engine_transactions.specs.Executing.{HaveNumbers, RunsTo, Shows}
use Rattle.tx_history.specs.History.{dropped_in, history_of, last_change, number_in, with_changes}
use Rattle.engine_transactions.specs.Changed.{has_changed, with_writes}
use Rattle.engine_transactions.specs.Meaning.{any_changed, means, means_kept}
use Rattle.tx_history.specs.Opens.{transaction_view}
use Rattle.engine_transactions.specs.declared.executing.Executing.{Executing}
use Rattle.tx_history.specs.declared.history.ChangeNumbers.{ChangeNumbers}
use Rattle.tx_history.specs.declared.table_read.TableRead.{TableRead}
use Rattle.tx_history.proofs.AbsentLaws.{above, dropped_out, longer, names_in, not_above, not_longer, number_out}
use Rattle.engine_transactions.proofs.MeansLemmas.{Meant, graph_stays, is_meant, limit_stays, stays_outside}
use Rattle.engine_transactions.proofs.RowLemmas.{told}
use Rattle.tx_history.proofs.TestLaws.{either_last, either_turned, is_false}

-- ---- what is shown where nothing is unsettled

pub shows_executed : (at : Executing) → IsIdle at → Shows at (executed at)
shows_executed at idle = record {
  state = refl;
  history = refl;
  last = λ read. refl;
  runs = subst (λ (us : List Undo). RunsTo (kept_in at.sessions) (reverse us) (standing_of at.sessions) []) (sym idle.settled) tt;
  numbers = subst (λ (us : List Undo). HaveNumbers (numbers_in at.numbers.changed) (reverse us)) (sym idle.settled) tt;
  dropped = idle.drops;
  within = idle.within;
}

none_left : (now : Parts AnyView) (us : List Undo) (s : SessionsStanding) → RunsTo now us s [] → us ≡ []
none_left now [] s h = refl
none_left now (u ∷ us) s h = absurd h

not_more : {X : Type 0} (xs : List X) (x : X) → xs ++ x ∷ [] ≡ [] → ⊥
not_more [] x h = absurd (cc)
not_more (y ∷ ys) x h = absurd (cc)

none_turned : {X : Type 0} (xs : List X) → reverse xs ≡ [] → xs ≡ []
none_turned [] h = refl
none_turned (x ∷ xs) h = absurd (not_more (reverse xs) x (sym (reverse-append (x ∷ []) xs) ∙ h))

pub is_idle : (at : Executing) (s : Executed SessionsStanding TableRead) → Shows at s → s.unsettled ≡ [] → IsIdle at
is_idle at s shows none = record {
  settled = none_turned at.unsettled.items (none_left (kept_in at.sessions) (reverse at.unsettled.items) s.state (subst (λ rs. RunsTo (kept_in at.sessions) (reverse at.unsettled.items) s.state rs) none shows.runs));
  drops = shows.dropped;
  within = shows.within;
}

-- ---- numbers are told by what changed last

module _ (old new : ChangeNumbers) where
  -- a name that was never dropped
  abbrev free : List ℕ
  free = longer (names_in old.dropped ++ names_in new.dropped)

  abbrev pub at_table : ℕ → TableRead
  at_table t = record { version = free; name = []; table = t }

  free_old : dropped_in old.dropped free ≡ 0
  free_old = dropped_out old.dropped free (λ x i. not_longer (names_in old.dropped ++ names_in new.dropped) x (in_left x (names_in old.dropped) (names_in new.dropped) i))

  free_new : dropped_in new.dropped free ≡ 0
  free_new = dropped_out new.dropped free (λ x i. not_longer (names_in old.dropped ++ names_in new.dropped) x (in_right x (names_in old.dropped) (names_in new.dropped) i))

  most_left : (n : ℕ) → max n 0 ≡ n
  most_left n = omega arith

  most_right : (n : ℕ) → max 0 n ≡ n
  most_right n = omega arith

  pub table_old : (t : ℕ) → last_change (history_of old) (at_table t) ≡ number_in old.changed t
  table_old t = ap (λ (n : ℕ). max (number_in old.changed t) n) free_old ∙ most_left (number_in old.changed t)

  pub table_new : (t : ℕ) → last_change (history_of new) (at_table t) ≡ number_in new.changed t
  table_new t = ap (λ (n : ℕ). max (number_in new.changed t) n) free_new ∙ most_left (number_in new.changed t)

  -- a table that is none of these and has no number
  module _ (tables : List ℕ) where
    abbrev rest : List ℕ
    rest = numbers_in new.changed ++ tables

    abbrev pub unnumbered : ℕ
    unnumbered = above (numbers_in old.changed ++ rest)

    abbrev pub at_name : List ℕ → TableRead
    at_name name = record { version = name; name = []; table = unnumbered }

    out_old : number_in old.changed unnumbered ≡ 0
    out_old = number_out old.changed unnumbered (λ i. not_above (numbers_in old.changed ++ rest) (in_left unnumbered (numbers_in old.changed) rest i))

    out_new : number_in new.changed unnumbered ≡ 0
    out_new = number_out new.changed unnumbered (λ i. not_above (numbers_in old.changed ++ rest) (in_right unnumbered (numbers_in old.changed) rest (in_left unnumbered (numbers_in new.changed) tables i)))

    pub out_tables : In unnumbered tables → ⊥
    out_tables i = not_above (numbers_in old.changed ++ rest) (in_right unnumbered (numbers_in old.changed) rest (in_right unnumbered (numbers_in new.changed) tables i))

    pub name_old : (name : List ℕ) → last_change (history_of old) (at_name name) ≡ dropped_in old.dropped name
    name_old name = ap (λ (n : ℕ). max n (dropped_in old.dropped name)) out_old ∙ most_right (dropped_in old.dropped name)

    pub name_new : (name : List ℕ) → last_change (history_of new) (at_name name) ≡ dropped_in new.dropped name
    name_new name = ap (λ (n : ℕ). max n (dropped_in new.dropped name)) out_new ∙ most_right (dropped_in new.dropped name)

-- the same history where the same changed last
pub same_history : (old new : ChangeNumbers) → new.last ≡ old.last → ((read : TableRead) → last_change (history_of new) read ≡ last_change (history_of old) read) → history_of new ≡ history_of old
same_history old new last same =
    let tables : (t : ℕ) → number_in new.changed t ≡ number_in old.changed t = λ t. sym (table_new old new t) ∙ same (at_table old new t) ∙ table_old old new t in
    let names : (name : List ℕ) → dropped_in new.dropped name ≡ dropped_in old.dropped name = λ name. sym (name_new old new [] name) ∙ same (at_name old new [] name) ∙ name_old old new [] name in
    λ i. record { last = last i; changed = λ t. tables t i; dropped = λ name. names name i }

-- AFTER AN ERROR the same is kept
pub is_same : (old new : Executing) → Shows new (executed old) → IsSame old new
is_same old new shows opens =
    let history = same_history old.numbers new.numbers (sym shows.history) (λ read. sym (shows.last read)) in
    let state = sym shows.state in
    λ i. record { sessions = state i; history = history i; opens = opens }

-- ---- runs that mean what they do

abbrev pub AllMeant : SessionsStanding → List (Ran SessionsStanding TableRead WriteReply) → Type 0
AllMeant s [] = Unit {0}
AllMeant s (r ∷ rs) = (x : StatementView) × (Meant s x r × AllMeant r.next rs)

abbrev Runs : Type 0
Runs = List (Ran SessionsStanding TableRead WriteReply)

-- the first of some runs, and the others
pub record FirstRun (first : Result (Ran SessionsStanding TableRead WriteReply) Refusal) (others : SessionsStanding → Result Runs Refusal) (runs : Runs) : Type 0 where
  pub ran : Ran SessionsStanding TableRead WriteReply
  pub more : Runs
  pub one : first ≡ Ok ran
  pub after : others ran.next ≡ Ok more
  pub all : runs ≡ ran ∷ more

abbrev ok_runs : Runs → Result Runs Refusal
ok_runs runs = Ok runs

runs_ok : (a b : Runs) → ok_runs a ≡ Ok b → b ≡ a
runs_ok a b h = cc

joined : (ran : Ran SessionsStanding TableRead WriteReply) (others : SessionsStanding → Result Runs Refusal) (runs : Runs) (rest : Result Runs Refusal) → others ran.next ≡ rest → with_runs (ran ∷ []) rest ≡ Ok runs → FirstRun (Ok ran) others runs
joined ran others runs (Ok more) is h = record { ran = ran; more = more; one = refl; after = is; all = runs_ok (ran ∷ more) runs h }
joined ran others runs (Err r) is h = absurd (cc)

first_run : (first : Result (Ran SessionsStanding TableRead WriteReply) Refusal) (others : SessionsStanding → Result Runs Refusal) (runs : Runs) → running first others ≡ Ok runs → FirstRun first others runs
first_run (Ok ran) others runs h = joined ran others runs (others ran.next) refl h
first_run (Err r) others runs h = absurd (cc)

pub all_meant : (writes : List StatementView) (s : SessionsStanding) (runs : Runs) → runs_of means s writes ≡ Ok runs → AllMeant s runs
all_meant [] s runs h = subst (λ (rs : Runs). AllMeant s rs) (sym (runs_ok [] runs h)) tt
all_meant (w ∷ ws) s runs h =
    let f = first_run (means s w) (λ next. runs_of means next ws) runs h in
    subst (λ (rs : Runs). AllMeant s rs) (sym f.all) (w, (is_meant s w f.ran f.one, all_meant ws f.ran.next f.more f.after))

-- where they lead
pub state_after : (s : Executed SessionsStanding TableRead) (runs : Runs) → (after_runs s runs).state ≡ end_of s.state runs
state_after s [] = refl
state_after s (r ∷ rs) = state_after (after_run s r) rs

pub graph_after : (s : SessionsStanding) (runs : Runs) → AllMeant s runs → (end_of s runs).laid.database.graph ≡ s.laid.database.graph
graph_after s [] all = refl
graph_after s (r ∷ rs) all = graph_after r.next rs all.1.1 ∙ graph_stays s all.0 r all.1.0

pub limit_after : (s : SessionsStanding) (runs : Runs) → AllMeant s runs → (end_of s runs).laid.database.limit ≡ s.laid.database.limit
limit_after s [] all = refl
limit_after s (r ∷ rs) all = limit_after r.next rs all.1.1 ∙ limit_stays s all.0 r all.1.0

-- what they changed
turned : (a b c : Bool) → b || (a || c) ≡ (a || b) || c
turned a b c = sym (either_last b a c) ∙ ap (λ (d : Bool). d || c) (either_turned b a)

pub changed_after : (s : Executed SessionsStanding TableRead) (runs : Runs) → AllMeant s.state runs → (read : TableRead) → is_changed (after_runs s runs).unsettled read ≡ any_changed s.state runs read.table || is_changed s.unsettled read
changed_after s [] all read = refl
changed_after s (r ∷ rs) all read =
    changed_after (after_run s r) rs all.1.1 read
    ∙ ap (λ (b : Bool). any_changed r.next rs read.table || (b || is_changed s.unsettled read)) (all.1.0.changes read)
    ∙ turned (has_changed s.state.laid.database r.next.laid.database read.table) (any_changed r.next rs read.table) (is_changed s.unsettled read)

-- they change no table outside the graph
pub none_outside : (s : SessionsStanding) (runs : Runs) → AreEdges s.laid.database.graph.edges → AllMeant s runs → (t : ℕ) → (In t (table_numbers (made s.laid.database.graph.edges)) → ⊥) → any_changed s runs t ≡ false
none_outside s [] edges all t out = refl
none_outside s (r ∷ rs) edges all t out =
    let graph = graph_stays s all.0 r all.1.0 in
    let own : has_changed s.laid.database r.next.laid.database t ≡ false = told (s.laid.database.state.tables t) (r.next.laid.database.state.tables t) false (stays_outside s all.0 r edges all.1.0 t out) in
    ap (λ (b : Bool). b || any_changed r.next rs t) own
    ∙ none_outside r.next rs (subst (λ (g : Drawn AnyView). AreEdges g.edges) (sym graph) edges) all.1.1 t (λ i. out (subst (λ (g : Drawn AnyView). In t (table_numbers (made g.edges))) graph i))

-- ---- the history behind them

any_of : (test : ℕ → Bool) (ts : List ℕ) → list_any test ts ≡ true → (t : ℕ) × (test t ≡ true)
any_of test [] h = absurd (false≢true h)
any_of test (t ∷ ts) h = by_test (test t) (λ e. (t, e)) (λ e. any_of test ts (sym (ap (λ (b : Bool). b || list_any test ts) e) ∙ h))

none_of : (test : ℕ → Bool) (ts : List ℕ) → list_any test ts ≡ false → (t : ℕ) → In t ts → test t ≡ false
none_of test [] h t i = absurd i
none_of test (k ∷ ks) h t (inl e) = is_false (test t) (λ f. false≢true (sym h ∙ ap (λ (b : Bool). b || list_any test ks) (ap test (sym e) ∙ f)))
none_of test (k ∷ ks) h t (inr i) = none_of test ks (is_false (list_any test ks) (λ f. false≢true (sym h ∙ ap (λ (b : Bool). test k || b) f ∙ either_turned (test k) true))) t i

module _ (old new : Executing) (idle : IsIdle old) (edges : AreEdges (kept_in old.sessions).graph.edges) (runs : Runs) (all : AllMeant (standing_of old.sessions) runs) (n : Executed SessionsStanding TableRead) (settled : IsSettled (after_runs (executed old) runs) n) (shows : Shows new n) where
  abbrev s : SessionsStanding
  s = standing_of old.sessions

  abbrev test : ℕ → Bool
  test = any_changed s runs

  abbrev tables : List ℕ
  tables = table_numbers (made s.laid.database.graph.edges)

  pub sessions_behind : standing_of new.sessions ≡ end_of s runs
  sessions_behind = sym shows.state ∙ settled.state ∙ state_after (executed old) runs

  tested : (read : TableRead) → is_changed (after_runs (executed old) runs).unsettled read ≡ test read.table || false
  tested read = changed_after (executed old) runs all read

  none_right : (b : Bool) → b || false ≡ b
  none_right true = refl
  none_right false = refl

  by_read : (read : TableRead) → is_changed (after_runs (executed old) runs).unsettled read ≡ test read.table
  by_read read = tested read ∙ none_right (test read.table)

  kept_last : (read : TableRead) → test read.table ≡ false → last_change (history_of new.numbers) read ≡ last_change (history_of old.numbers) read
  kept_last read h = sym (shows.last read) ∙ settled.others read (by_read read ∙ h) ∙ after_last (executed old) runs read

  new_last : (read : TableRead) → test read.table ≡ true → last_change (history_of new.numbers) read ≡ new.numbers.last
  new_last read h = sym (shows.last read) ∙ settled.changed read (by_read read ∙ h) ∙ shows.history

  tables_behind : (t : ℕ) (b : Bool) → test t ≡ b → number_in new.numbers.changed t ≡ (if b then new.numbers.last else number_in old.numbers.changed t)
  tables_behind t true h = sym (table_new old.numbers new.numbers t) ∙ new_last (at_table old.numbers new.numbers t) h
  tables_behind t false h = sym (table_new old.numbers new.numbers t) ∙ kept_last (at_table old.numbers new.numbers t) h ∙ table_old old.numbers new.numbers t

  names_behind : (name : List ℕ) → dropped_in new.numbers.dropped name ≡ dropped_in old.numbers.dropped name
  names_behind name =
      sym (name_new old.numbers new.numbers tables name)
      ∙ kept_last (at_name old.numbers new.numbers tables name) (none_outside s runs edges all (unnumbered old.numbers new.numbers tables) (out_tables old.numbers new.numbers tables))
      ∙ name_old old.numbers new.numbers tables name

  -- no table is changed where none of the graph is
  none_there : list_any test tables ≡ false → (t : ℕ) → test t ≡ false
  none_there h t =
      by_test (is_in t tables)
      (λ e. none_of test tables h t (in_of_test t tables e))
      (λ e. none_outside s runs edges all t (λ i. false≢true (sym e ∙ is_in_true t tables i)))

  rises : list_any test tables ≡ true → new.numbers.last ≡ next_number old.numbers.last
  rises h =
      let one = any_of test tables h in
      let mark : TableRead = record { version = []; name = []; table = one.0 } in
      sym shows.history ∙ settled.rises (record { mark = mark; changed = by_read mark ∙ one.1 }) ∙ ap next_number (after_history (executed old) runs)

  stays : list_any test tables ≡ false → new.numbers.last ≡ old.numbers.last
  stays h =
      sym shows.history
      ∙ settled.stays (λ any. false≢true (sym (by_read any.mark ∙ none_there h any.mark.table) ∙ any.changed))
      ∙ after_history (executed old) runs

  if_same : (b : Bool) (x y z : ℕ) → x ≡ z → (if b then x else y) ≡ (if b then z else y)
  if_same b x y z h = ap (λ (k : ℕ). if b then k else y) h

  history_if : (b : Bool) → list_any test tables ≡ b → history_of new.numbers ≡ (if b then with_changes (history_of old.numbers) test else history_of old.numbers)
  history_if true h = λ i. record {
    last = rises h i;
    changed = λ t. (tables_behind t (test t) refl ∙ if_same (test t) new.numbers.last (number_in old.numbers.changed t) (next_number old.numbers.last) (rises h)) i;
    dropped = λ name. names_behind name i;
  }
  history_if false h = λ i. record {
    last = stays h i;
    changed = λ t. tables_behind t false (none_there h t) i;
    dropped = λ name. names_behind name i;
  }

  -- ONE NUMBER FOR ALL OF THEM
  pub history_behind : history_of new.numbers ≡ with_writes (history_of old.numbers) s.laid.database test
  history_behind = history_if (list_any test tables) refl

  graph_behind : (kept_in new.sessions).graph ≡ (kept_in old.sessions).graph
  graph_behind = ap (λ (x : SessionsStanding). x.laid.database.graph) sessions_behind ∙ graph_after s runs all

  pub keeps_behind : (x : StatementView) → Keeps x old new
  keeps_behind x = record {
    texts = λ t i. in_right t (operators_in x) (texts_of (kept_in old.sessions).graph.edges) (subst (λ (g : Drawn AnyView). In t (texts_of g.edges)) graph_behind i);
    limit = ap (λ (y : SessionsStanding). y.laid.database.limit) sessions_behind ∙ limit_after s runs all;
  }

  pub idle_behind : IsIdle new
  idle_behind = is_idle new n shows settled.unsettled

-- whatever leaves the same keeps operators and the greatest identifier
pub keeps_so : (old new : Executing) (x : StatementView) → standing_of new.sessions ≡ standing_of old.sessions → Keeps x old new
keeps_so old new x same =
    let graph : (kept_in new.sessions).graph ≡ (kept_in old.sessions).graph = ap (λ (s : SessionsStanding). s.laid.database.graph) same in
    record {
      texts = λ t i. in_right t (operators_in x) (texts_of (kept_in old.sessions).graph.edges) (subst (λ (g : Drawn AnyView). In t (texts_of g.edges)) graph i);
      limit = ap (λ (s : SessionsStanding). s.laid.database.limit) same;
    }

pub keeps_same : (old new : Executing) (x : StatementView) → IsSame old new → Keeps x old new
keeps_same old new x same = keeps_so old new x (ap (λ st. st.sessions) (same []))

-- ---- statements as they lie in memory

pub runs_told : (writes : List Statement) (s : SessionsStanding) → runs_of means_kept s writes ≡ runs_of means s (map statement_view writes)
runs_told [] s = refl
runs_told (w ∷ ws) s = ap (λ (f : SessionsStanding → Result Runs Refusal). running (means s (statement_view w)) f) (λ i. λ next. runs_told ws next i)

pub commit_told : (s : Executed SessionsStanding TableRead) (t : TransactionState Statement TableRead) → commit means_kept s t ≡ commit means s (transaction_view t)
commit_told s t = ap (λ (r : Result Runs Refusal). unless (read_fault s t.reads) r) (runs_told t.writes s.state)
