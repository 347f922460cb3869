-- What runs keep throughout their scripts, and second scripts that say USE.
use Rattle.std.specs.Prelude.{Option, Some, None}
use Rattle.std.proofs.Common.{ℕ, List, inl, inr, sym, ap, subst}
use Rattle.serde_json.specs.Data.{Data}
use Rattle.statements.specs.Views.{StatementView}
use Rattle.change_feed.specs.Watchers.{WatcherState}
use Rattle.op_any.specs.Operators.{any_meaning}
use Rattle.db_state.specs.Fields.{IsDatabase}
use Rattle.dump_formats.specs.Stands.{StandsFor}
use Rattle.dump_formats.specs.declared.loaded.Loaded.{Loaded as Kept}
use Rattle.generated_run.specs.Standing.{Standing}
use Rattle.generated_run.specs.WatchedStanding.{Standing as WatchedStanding}
use Rattle.generated_run.specs.Begun.{begun_again}
use Rattle.generated_run.specs.WatchedOutput.{joined}
use Rattle.run_words.specs.Words.{Asked}
use Rattle.watch_laws.specs.SessionLawsKept.{DatabasesAreKept, EmptyIsKept}
use Rattle.watch_laws.specs.SessionLawsSaid.{AreSaid, nothing_said}
use Rattle.watch_laws.specs.ScriptLawsKept.{IsKeptAt}
use Rattle.watch_laws.specs.Said.{SaidNeedNoSession}
use Rattle.watch_laws.specs.Scripts.{ScriptsAreOrdinary, ScriptsStayKept}
use Rattle.inverda_run.specs.Laws.{LoadsTheDumped}
use Rattle.inverda_run.specs.ScriptLaws.{RunsAreOrdinary, RunsStayKept, SaidRunsAreOne}
use Rattle.inverda_run.specs.Starts.{StartsBy, Told, all_waiting}
use Rattle.inverda_run.specs.Statuses.{Starts}
use Rattle.inverda_run.proofs.TwoRunLemmas.{begins_there, join}

-- ---- where a run starts

-- what stands for a dump of either format is valid
pub stands_database : {d : Data} {kept : Kept} → StandsFor d kept → IsDatabase any_meaning kept.database
stands_database (inl first) = first.database.database
stands_database (inr second) = second.database.database

module _ (empty : EmptyIsKept) (loaded : DatabasesAreKept) where
  start_kept : (told : Told) (load : Option (List ℕ)) (max_id : ℕ) (from : Standing) → StartsBy told load max_id from → IsKeptAt from
  start_kept told None max_id from is = subst IsKeptAt (sym is) (record { database = empty max_id; writes = tt })
  start_kept told (Some name) max_id from is = subst IsKeptAt (sym is.state) (record { database = loaded is.kept.database (stands_database is.dump.2); writes = tt })

  starts_kept : (words : List (List ℕ)) (told : Told) (waiting : List WatcherState) (asked : Asked) (from : WatchedStanding) → Starts words told waiting asked from → IsKeptAt from.transactions
  starts_kept words told waiting asked from starts = start_kept told asked.load asked.max_id from.transactions starts.start

  pub runs_stay_kept : ScriptsStayKept → RunsStayKept
  runs_stay_kept law words told waiting asked from starts bytes ended statements outcome comes =
      let kept = starts_kept words told waiting asked from starts in
      (kept, law from bytes ended statements outcome kept comes)

  pub runs_ordinary : ScriptsAreOrdinary → RunsAreOrdinary
  runs_ordinary law words told waiting asked from starts bytes ended statements outcome comes before after statement answer are h =
      law from bytes ended statements outcome (starts_kept words told waiting asked from starts) comes before after statement answer are h

-- ---- two runs

pub said_runs : LoadsTheDumped → SaidNeedNoSession → SaidRunsAreOne
said_runs loads law words words' told mid told' waiting waiting' left left' more more' held between held' first second name file dumps load is same one other none are watch =
    let begins = begins_there loads first second name file dumps load is same in
    let xs : List StatementView = other.statements in
    let said : AreSaid (begun_again first.to.transactions).sessions nothing_said xs = subst (λ (s : WatchedStanding). AreSaid s.transactions.sessions nothing_said xs) begins are in
    let again = law first.to (all_waiting waiting') xs none said watch in
    join loads first second name file dumps load is same one other (ap joined again.0) again.1
