-- What live watches show.
use Rattle.std.specs.Prelude.{List, Option, Some, None, IsSome}
use Rattle.change_feed.specs.Feeds.{AllQuiet}
use Rattle.change_feed.specs.Shown.{Named, after_notes}
use Rattle.change_feed.specs.Watchers.{WatcherState}
use Rattle.change_feed.specs.Watches.{AllFresh, WatchState, WatchesState}
use Rattle.feed_mirror.specs.Laws.{Shows}
use Rattle.version_graph.specs.Edges.{set_named}
use Rattle.version_graph.specs.Sets.{Each}
use Rattle.version_model.specs.Kept.{Database}
use Rattle.version_notes.specs.Versions.{tables_of}

-- a watcher that tells what it shows will show exactly these tables once it is told all notes for which it is ready
abbrev pub WillShow : Named → WatcherState → Option Named → Type 0
WillShow tables w None = Unit {0}
WillShow tables w (Some shown) = Shows (after_notes w.prepared shown) tables

-- A LIVE WATCH FOLLOWS ITS VERSION, which lives
pub record Follows {O : Type 0} (d : Database O) (w : WatchState) : Type 0 where
  pub lives : IsSome (set_named d.graph.versions w.version)
  pub shows : WillShow (tables_of d w.version) w.watcher w.watcher.shown

abbrev pub AllFollow : {O : Type 0} → Database O → List WatchState → Type 0
AllFollow d live = Each (Follows d) live

-- between events watchers that wait were told nothing, nobody is ready for a note, counts are of 64 bits, and each live watch shows its version's tables
pub record AreQuiet {O : Type 0} (d : Database O) (s : WatchesState) : Type 0 where
  pub fresh : AllFresh s.waiting
  pub quiet : AllQuiet s.live
  pub follow : AllFollow d s.live
