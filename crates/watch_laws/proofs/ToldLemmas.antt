-- What events tell depends on the data alone, not on the layout.
use Rattle.std.specs.Prelude.{Option, Some, None, Result, Ok, Err}
use Rattle.std.proofs.Common.{◌≡◌, ℕ, List, [], ◌∷◌, refl, ap, ◌∙◌}
use Rattle.par_base.specs.declared.refusal.Refusal.{Refusal}
use Rattle.statements.specs.Views.{StatementView}
use Rattle.session_tx.specs.Commits.{read_fault, runs_of, unless}
use Rattle.session_tx.specs.declared.commit_fault.CommitFault.{CommitFault}
use Rattle.change_feed.specs.Feeds.{AllQuiet, events_told}
use Rattle.change_feed.specs.Watches.{WatchesState}
use Rattle.engine_feeds.specs.TransactionsAct.{at_hand}
use Rattle.engine_feeds.specs.AnyDatabase.{AnyDatabase}
use Rattle.tx_history.specs.Kinds.{kind_in}
use Rattle.engine_feeds.specs.Leads.{committed_data, data_after, data_left, open_data, written_data}
use Rattle.engine_feeds.specs.Meaning.{executing, means}
use Rattle.tx_history.specs.Views.{OpenView}
use Rattle.engine_feeds.specs.TransactionsStanding.{Standing as TransactionsStanding}
use Rattle.tx_history.specs.declared.statement_kind.StatementKind.{StatementKind}
use Rattle.tx_history.specs.declared.statement_kind.StatementKind.TheVariants as kind
use Rattle.script_laws.specs.Moves.{with_layout as laid_out}
use Rattle.script_laws.proofs.RelaidLaws.{Runs, relaid_all, relaid_runs, same_runs}
use Rattle.engine_feeds.specs.Act.{told_of, watches_behind}
use Rattle.engine_feeds.specs.VersionNotes.{notes_along}
use Rattle.watch_laws.proofs.IdleLemmas.{nothing_told}
use Rattle.watch_laws.proofs.NothingLemmas.{nothing_noted}

module _ (layout pending : List ℕ) where
  runs_data : (runs : Runs) → data_after (relaid_runs layout pending runs) ≡ data_after runs
  runs_data [] = refl
  runs_data (run ∷ runs) = ap (λ (more : List AnyDatabase). run.next.laid.database ∷ more) (runs_data runs)

  commit_data : (fault : Option CommitFault) (r : Result Runs Refusal) → committed_data (unless fault (relaid_all layout pending r)) ≡ committed_data (unless fault r)
  commit_data (Some fault) r = refl
  commit_data None (Err refusal) = refl
  commit_data None (Ok runs) = runs_data runs

  module _ (s : TransactionsStanding) where
    abbrev under : TransactionsStanding
    under = laid_out s layout pending

    same_open : (o : Option OpenView) → open_data under o ≡ open_data s o
    same_open None = refl
    same_open (Some o) =
        let t = o.transaction in
        ap (λ (r : Result Runs Refusal). committed_data (unless (read_fault (executing s) t.reads) r)) (same_runs layout pending t.writes s.sessions)
        ∙ commit_data (read_fault (executing s) t.reads) (runs_of means s.sessions t.writes)

    module _ (next : TransactionsStanding) (layout' pending' : List ℕ) where
      same_written : (o : Option OpenView) → written_data o (laid_out next layout' pending') ≡ written_data o next
      same_written None = refl
      same_written (Some o) = refl

      same_data : (k : StatementKind) → data_left k under (laid_out next layout' pending') ≡ data_left k s next
      same_data kind.Begin = refl
      same_data kind.Rollback = refl
      same_data kind.Commit = same_open (at_hand s)
      same_data kind.Select = refl
      same_data kind.Write = same_written (at_hand s)
      same_data kind.Other = refl

      -- watches are told the same
      pub same_told : (x : StatementView) (w : WatchesState) → told_of under x (laid_out next layout' pending') w ≡ told_of s x next w
      same_told x w = ap (λ (datas : List AnyDatabase). watches_behind x (events_told (notes_along s.sessions.laid.database datas) w)) (same_data (kind_in x))

-- an event that leaves the same data tells nothing
pub nothing_along : (d : AnyDatabase) (w : WatchesState) → AllQuiet w.live → events_told (notes_along d (d ∷ [])) w ≡ w
nothing_along d w quiet = ap (λ notes. events_told (notes ∷ []) w) (nothing_noted d) ∙ nothing_told w quiet
