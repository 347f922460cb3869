-- From where a run starts, and what the dump of a state is.
use Rattle.std.specs.Prelude.{◌≡◌, ◌≤◌, ℕ, List, [], length, Option, Some, None}
use Rattle.outside.specs.FileTold.{ToldAs}
use Rattle.change_feed.specs.Watchers.{WatcherState}
use Rattle.change_feed.specs.Watches.{WatchesState}
use Rattle.generated_run.specs.EngineCoreKept.{state_of}
use Rattle.generated_run.specs.Standing.{Standing}
use Rattle.generated_run.specs.Begun.{begun_again, begun_with, empty_standing}
use Rattle.dump_formats.specs.Formats.{dump_text}
use Rattle.dump_formats.specs.Stands.{IsDumpOf}
use Rattle.dump_formats.specs.declared.loaded.Loaded.{Loaded as Kept}
use Rattle.generated_run.specs.Statuses.{limit}

-- what is told of files, by their names
abbrev pub Told : Type 0
Told = List ℕ → Option (Option (List ℕ))

-- the beginning over what was loaded
abbrev pub begun_from : Kept → Standing
begun_from kept = begun_with (state_of kept.database) kept.counts kept.pending

-- the file holds a dump, within the limit of bytes, and this is the beginning over that for which it stands
pub record Loaded (file : Option (Option (List ℕ))) (max_id : ℕ) (from : Standing) : Type 0 where
  pub bytes : List ℕ
  pub within : length bytes ≤ limit
  pub holds : ToldAs file bytes
  pub kept : Kept
  pub dump : IsDumpOf bytes kept
  pub limit_is : kept.database.ids.limit ≡ max_id
  pub state : from ≡ begun_from kept

-- from where a run starts: the beginning over the loaded dump, or else over an empty database
abbrev pub StartsBy : Told → Option (List ℕ) → ℕ → Standing → Type 0
StartsBy told None max_id from = from ≡ empty_standing max_id
StartsBy told (Some name) max_id from = Loaded (told name) max_id from

-- these watchers wait, in this order, and nothing was watched yet
abbrev pub all_waiting : List WatcherState → WatchesState
all_waiting waiting = record { waiting = waiting; last = 0; live = [] }

-- THE DUMP OF WHERE A RUN STANDS, as text: each has one
abbrev pub dump_of : Standing → List ℕ
dump_of to = dump_text to.sessions.laid.database to.sessions.laid.layout to.sessions.counts to.sessions.pending

-- the text is the dump of where a run stands, and a load reads from it what begins there again
pub record IsDumpText (to : Standing) (text : List ℕ) : Type 0 where
  pub kept : Kept
  pub state : begun_again to ≡ begun_from kept
  pub written : text ≡ dump_of to
  pub dump : IsDumpOf text kept
