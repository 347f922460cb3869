-- Runs of writes, and how they are settled and taken back.
use Rattle.std.specs.Prelude.{OnErr}
use Rattle.std.proofs.Common.{◌≡◌, ℕ, ◌≤◌, suc, List, [], ◌∷◌, length, Result, Ok, Err, refl, sym, ap, subst, ◌∙◌, arith}
use Rattle.std.proofs.lemmas.List.{length-reverse}
use mathlib.Core.List.{reverse}
use Rattle.par_base.specs.declared.fault.Fault.{Fault}
use Rattle.par_base.specs.declared.fault.Fault.TheVariants.{Refused, Memory as OutOfMemory}
use Rattle.par_base.specs.declared.refusal.Refusal.{Refusal}
use Rattle.statements.specs.Views.{StatementView, statement_view}
use Rattle.statements.specs.declared.statement.Statement.{Statement}
use Rattle.version_graph.specs.Edges.{AreEdges}
use Rattle.op_any.specs.Operators.{AnyView}
use Rattle.db_state.specs.declared.parts.Parts.{Parts}
use Rattle.engine_sessions.specs.WriteUndo.{Undo}
use Rattle.session_tx.specs.Calls.{last_number, HasRuns, LeadsRun, LeadsSettled}
use Rattle.session_tx.specs.Commits.{after_runs, commit, read_fault, results, running, taken_back_times, unless, LeadsRuns, WasRunAll}
use Rattle.session_tx.specs.Meaning.{Ran, Standing as Executed, Unsettled}
use Rattle.session_tx.specs.Serial.{end_of}
use Rattle.session_tx.specs.Transactions.{TransactionState}
use Rattle.session_tx.specs.declared.commit_fault.CommitFault.{CommitFault}
use Rattle.session_tx.proofs.BackLaws.{runs_back, runs_counted}
use Rattle.session_tx.proofs.FreshLaws.{accepted}
use Rattle.layout_planner.specs.declared.planning.TableCount.{TableCount}
use Rattle.engine_state.specs.declared.reply.WriteReply.{WriteReply}
use Rattle.engine_sessions.specs.Standing.{Standing as SessionsStanding, kept_in, standing_of}
use Rattle.engine_transactions.specs.Calls.{executed, IsIdle, IsSame}
use Rattle.tx_history.specs.History.{history_of, DropsArePast}
use Rattle.engine_transactions.specs.Executing.{RunsTo, Shows}
use Rattle.engine_transactions.specs.Meaning.{means, means_kept}
use Rattle.tx_history.specs.Opens.{transaction_view}
use Rattle.engine_transactions.specs.Runs.{alone, AreBack, AreRun, AreSettled, HaveRun, Runs, RunsAll, RunsOne}
use Rattle.tx_history.specs.Views.{TransactionView}
use Rattle.engine_transactions.specs.declared.executing.Executing.{Executing}
use Rattle.tx_history.specs.declared.history.ChangeNumbers.{ChangeNumbers}
use Rattle.tx_history.specs.declared.table_read.TableRead.{TableRead}
use Rattle.engine_transactions.proofs.CommitLemmas.{AllMeant, all_meant, commit_told, graph_after, history_behind, is_idle, is_same, keeps_behind, sessions_behind, shows_executed, state_after}
use Rattle.engine_transactions.proofs.LeftLemmas.{keeps_through}

-- ---- running

-- what stands behind runs
ends_at : (old now : Executing) (runs : Runs) → Shows now (after_runs (executed old) runs) → standing_of now.sessions ≡ end_of (standing_of old.sessions) runs
ends_at old now runs shows = sym shows.state ∙ state_after (executed old) runs

-- a write that is kept alone is committed as it means
alone_commits : (old : Executing) (x : StatementView) (ran : Ran SessionsStanding TableRead WriteReply) → means (standing_of old.sessions) x ≡ Ok ran → commit means (executed old) (alone x) ≡ Ok (ran ∷ [])
alone_commits old x ran is = ap (λ (first : Result (Ran SessionsStanding TableRead WriteReply) Refusal). unless (read_fault (executed old) []) (running first (λ next. Ok []))) is

-- what running a write answers
pub record OneRun (x : StatementView) (old new : Executing) (result : Result WriteReply (Fault Refusal)) : Type 0 where
  pub runs : RunsOne x old new result
  pub same : OnErr result (IsSame old new)
  pub idle : OnErr result (IsIdle new)

pub one_run : (old new : Executing) → IsIdle old → AreEdges (kept_in old.sessions).graph.edges → (write : Statement) (result : Result WriteReply (Fault Refusal))
    → ((s : Executed SessionsStanding TableRead) → Shows old s → LeadsRun (Shows new) means_kept s write result) → OneRun (statement_view write) old new result
one_run old new idle edges write (Ok done) leads =
    let r = leads (executed old) (shows_executed old idle) in
    let was = r.1.0 in
    let shows : Shows new (after_runs (executed old) (was.ran ∷ [])) = subst (λ (s : Executed SessionsStanding TableRead). Shows new s) was.leaves r.1.1 in
    record {
      runs = record {
        ran = was.ran;
        meant = was.meant;
        gives = was.gives;
        run = record { idle = idle; edges = edges; commits = alone_commits old (statement_view write) was.ran was.meant; shows = shows; ends = ends_at old new (was.ran ∷ []) shows };
      };
      same = tt;
      idle = tt;
    }
one_run old new idle edges write (Err (Refused refusal)) leads =
    let r = leads (executed old) (shows_executed old idle) in
    record { runs = r.0; same = is_same old new r.1; idle = is_idle new (executed old) r.1 refl }
one_run old new idle edges write (Err (OutOfMemory memory)) leads =
    let r = leads (executed old) (shows_executed old idle) in
    record { runs = tt; same = is_same old new r; idle = is_idle new (executed old) r refl }

-- what running a transaction answers
pub record AllRun (t : TransactionView) (old new : Executing) (result : Result (List WriteReply) (Fault CommitFault)) : Type 0 where
  pub runs : RunsAll t old new result
  pub same : OnErr result (IsSame old new)
  pub idle : OnErr result (IsIdle new)

pub all_run : (old new : Executing) → IsIdle old → AreEdges (kept_in old.sessions).graph.edges → (t : TransactionState Statement TableRead) (result : Result (List WriteReply) (Fault CommitFault))
    → ((s : Executed SessionsStanding TableRead) → Shows old s → LeadsRuns (Shows new) means_kept t s result) → AllRun (transaction_view t) old new result
all_run old new idle edges t (Ok dones) leads =
    let r = leads (executed old) (shows_executed old idle) in
    let was = r.1.0 in
    let shows : Shows new (after_runs (executed old) was.runs) = subst (λ (s : Executed SessionsStanding TableRead). Shows new s) was.leaves r.1.1 in
    record {
      runs = record {
        runs = was.runs;
        gives = was.gives;
        run = record { idle = idle; edges = edges; commits = sym (commit_told (executed old) t) ∙ was.commits; shows = shows; ends = ends_at old new was.runs shows };
      };
      same = tt;
      idle = tt;
    }
all_run old new idle edges t (Err (Refused fault)) leads =
    let r = leads (executed old) (shows_executed old idle) in
    record { runs = sym (commit_told (executed old) t) ∙ r.0; same = is_same old new r.1; idle = is_idle new (executed old) r.1 refl }
all_run old new idle edges t (Err (OutOfMemory memory)) leads =
    let r = leads (executed old) (shows_executed old idle) in
    record { runs = tt; same = is_same old new r; idle = is_idle new (executed old) r refl }

-- ---- what stands behind runs

module _ (t : TransactionView) (old now : Executing) (runs : Runs) (run : AreRun t old now runs) where
  pub all_mean : AllMeant (standing_of old.sessions) runs
  all_mean = all_meant t.writes (standing_of old.sessions) runs (accepted _ _ runs run.commits).1

  -- the graph stays
  pub run_graph : (kept_in now.sessions).graph ≡ (kept_in old.sessions).graph
  run_graph = ap (λ (s : SessionsStanding). s.laid.database.graph) run.ends ∙ graph_after (standing_of old.sessions) runs all_mean

  -- SETTLED, with other counts
  pub runs_settle : (mid new : Executing) (counts : List TableCount) → ((s : Executed SessionsStanding TableRead) → Shows now s → LeadsSettled (Shows mid) s) → standing_of new.sessions ≡ record (standing_of mid.sessions) { counts = counts } → kept_in new.sessions ≡ kept_in mid.sessions → new.numbers ≡ mid.numbers → new.unsettled ≡ mid.unsettled
      → AreSettled old new runs counts
  runs_settle mid new counts settles put same numbers unsettled =
      let l = settles (after_runs (executed old) runs) run.shows in
      let idle = is_idle mid l.0 l.1.1 l.1.0.unsettled in
      record {
        sessions = put ∙ ap (λ (s : SessionsStanding). record s { counts = counts }) (sessions_behind old mid run.idle run.edges runs all_mean l.0 l.1.0 l.1.1);
        history = ap (λ (n : ChangeNumbers). history_of n) numbers ∙ history_behind old mid run.idle run.edges runs all_mean l.0 l.1.0 l.1.1;
        keeps = λ x. keeps_through x old mid new same (keeps_behind old mid run.idle run.edges runs all_mean l.0 l.1.0 l.1.1 x);
        idle = record {
          settled = ap (λ us. us.items) unsettled ∙ idle.settled;
          drops = subst (λ (n : ChangeNumbers). DropsArePast n) (sym numbers) idle.drops;
          within = subst (λ (n : ChangeNumbers). n.last ≤ last_number) (sym numbers) idle.within;
        };
      }

  -- TAKEN BACK
  was_run : WasRunAll means t (executed old) (after_runs (executed old) runs) (results runs)
  was_run = record { runs = runs; commits = run.commits; gives = refl; leaves = refl }

  as_many : (parts : Parts AnyView) (us : List Undo) (s : SessionsStanding) (rs : List (Unsettled SessionsStanding TableRead)) → RunsTo parts us s rs → length rs ≡ length us
  as_many parts [] s [] h = refl
  as_many parts [] s (r ∷ rs) h = absurd h
  as_many parts (u ∷ us) s [] h = absurd h
  as_many parts (u ∷ us) s (r ∷ rs) h = ap suc (as_many h.0 us r.before rs h.1.1)

  -- so many are unsettled
  there : length (after_runs (executed old) runs).unsettled ≡ length now.unsettled.items
  there =
      as_many (kept_in now.sessions) (reverse now.unsettled.items) (after_runs (executed old) runs).state (after_runs (executed old) runs).unsettled run.shows.runs
      ∙ length-reverse now.unsettled.items

  counted : length now.unsettled.items ≡ length (results runs)
  counted =
      let h = runs_counted means t (executed old) (after_runs (executed old) runs) (results runs) was_run in
      omega (arith, h, there)

  pub may_take_back : HasRuns (λ (s : Executed SessionsStanding TableRead). Shows now s) (length now.unsettled.items)
  may_take_back = (after_runs (executed old) runs, (run.shows, omega (arith, there)))

  pub runs_go_back : (new : Executing) → ((s : Executed SessionsStanding TableRead) → Shows now s → length now.unsettled.items ≤ length s.unsettled → Shows new (taken_back_times (length now.unsettled.items) s)) → AreBack old new
  runs_go_back new taken =
      let s = after_runs (executed old) runs in
      let gone : taken_back_times (length now.unsettled.items) s ≡ executed old = ap (λ (n : ℕ). taken_back_times n s) counted ∙ runs_back means t (executed old) s (results runs) was_run in
      let shows : Shows new (executed old) = subst (λ (e : Executed SessionsStanding TableRead). Shows new e) gone (taken s run.shows (omega (arith, there))) in
      record { same = is_same old new shows; idle = is_idle new (executed old) shows refl }

pub have_run_may : (now : Executing) → HaveRun now → HasRuns (λ (s : Executed SessionsStanding TableRead). Shows now s) (length now.unsettled.items)
have_run_may now h = may_take_back h.0 h.1.0 now h.1.1.0 h.1.1.1
