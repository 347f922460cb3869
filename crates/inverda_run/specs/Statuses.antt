-- What the statuses of a run say. Source and sink tell their bytes, and files what they hold, before and now, where they know it.
use Rattle.std.specs.Prelude.{◌≡◌, ◌≤◌, ◌<◌, ◌⊎◌, ℕ, List, length, Option, Some, None, codes, ⊤}
use Rattle.std.specs.Io.KnownBytes.{Appends}
use Rattle.outside.specs.Causes.{Rose}
use Rattle.outside.specs.FileTold.{IsMissing, ToldAs}
use Rattle.change_feed.specs.Watchers.{WatcherState}
use Rattle.generated_run.specs.Standing.{Standing}
use Rattle.generated_run.specs.WatchedStanding.{Standing as WatchedStanding}
use Rattle.generated_run.specs.EngineCoreTexts.{line}
use Rattle.dump_formats.specs.Stands.{IsDumpOf}
use Rattle.dump_formats.specs.declared.loaded.Loaded.{Loaded as Kept}
use Rattle.run_words.specs.Words.{Asked, Says}
use Rattle.script_generator.specs.Summary.{summary_lines}
use Rattle.generated_run.specs.Statuses.{Done, limit}
use Rattle.generated_run.specs.Summed.{generated_end, generated_summary}
use Rattle.inverda_run.specs.Files.{IsLonger}
use Rattle.inverda_run.specs.Starts.{IsDumpText, StartsBy, Told, all_waiting}

-- ---- the words and the start

-- the words say nothing
abbrev pub SayNothing : List (List ℕ) → Type 0
SayNothing words = (asked : Asked) → Says words asked → ⊥

-- the words name this file to be loaded
pub record Loads (words : List (List ℕ)) (name : List ℕ) : Type 0 where
  pub asked : Asked
  pub says : Says words asked
  pub load : asked.load ≡ Some name

-- the words name this file to be written
pub record Dumps (words : List (List ℕ)) (name : List ℕ) : Type 0 where
  pub asked : Asked
  pub says : Says words asked
  pub dump : asked.dump ≡ Some name

-- a run of the words starts from here, where these watchers were handed in
pub record Starts (words : List (List ℕ)) (told : Told) (waiting : List WatcherState) (asked : Asked) (from : WatchedStanding) : Type 0 where
  pub says : Says words asked
  pub start : StartsBy told asked.load asked.max_id from.transactions
  pub watches : from.watches ≡ all_waiting waiting

-- the words ask for the generated script of so many numbers in place of the source's
pub record Generates (words : List (List ℕ)) (n : ℕ) : Type 0 where
  pub asked : Asked
  pub says : Says words asked
  pub generate : asked.generate ≡ Some n

-- the words ask for no generated script
abbrev pub RunsSource : List (List ℕ) → Type 0
RunsSource words = (n : ℕ) → Generates words n → ⊥

-- it holds of where a run of the source's script starts
abbrev pub OfStart : List (List ℕ) → Told → List WatcherState → (WatchedStanding → Type 0) → Type 0
OfStart words told waiting P = (asked : Asked) × (from : WatchedStanding) × Starts words told waiting asked from × (asked.generate ≡ None) × P from

-- the bytes are no dump of either format
abbrev pub NoDump : List ℕ → Type 0
NoDump bytes = (kept : Kept) → IsDumpOf bytes kept → ⊥

-- ---- the statuses

-- the file that the words name holds the dump of where the run stands, within the limit
abbrev pub Written : Option (List ℕ) → Told → Standing → Type 0
Written None told to = ⊤
Written (Some name) told to = (text : List ℕ) × IsDumpText to text × (length text ≤ limit) × ToldAs (told name) text

-- the script was carried out from here to its end: that of the source, whose statements were answered, or the generated one, whose
-- summary was put, for which nothing was taken, and which watches nothing
pub data Carried (asked : Asked) (from to : WatchedStanding) (left left' held held' : Option (List ℕ)) : Type 0 where
  source : asked.generate ≡ None → Done from to left left' held held' → Carried asked from to left left' held held'
  generated : (n : ℕ) → asked.generate ≡ Some n → left' ≡ left → Appends held held' (summary_lines (generated_summary from.transactions n))
      → to ≡ record from { transactions = generated_end from.transactions n } → Carried asked from to left left' held held'

-- the script was carried out from the start to its end, and the dump was written
pub record Ran (words : List (List ℕ)) (told told' : Told) (waiting : List WatcherState) (left left' held held' : Option (List ℕ)) : Type 0 where
  pub asked : Asked
  pub from : WatchedStanding
  pub to : WatchedStanding
  pub starts : Starts words told waiting asked from
  pub carried : Carried asked from to left left' held held'
  pub limit_stays : to.transactions.sessions.laid.database.limit ≡ asked.max_id
  pub written : Written asked.dump told' to.transactions

-- the loaded bytes are no dump
pub record RefusedDump (words : List (List ℕ)) (told : Told) (held held' : Option (List ℕ)) : Type 0 where
  pub name : List ℕ
  pub loads : Loads words name
  pub bytes : List ℕ
  pub within : length bytes ≤ limit
  pub holds : ToldAs (told name) bytes
  pub none : NoDump bytes
  pub put : Appends held held' (line (codes "dump refused"))

-- nothing was taken from the source, and no call of it failed
abbrev pub Untouched : Option (List ℕ) → Option (List ℕ) → ℕ → ℕ → Type 0
Untouched left left' read read' = (left' ≡ left) × (read' ≡ read)

-- the loaded file is longer than the limit
pub record LongLoad (words : List (List ℕ)) (told : Told) (left left' : Option (List ℕ)) (read read' : ℕ) (held held' : Option (List ℕ)) : Type 0 where
  pub name : List ℕ
  pub loads : Loads words name
  pub longer : IsLonger limit (told name)
  pub untouched : Untouched left left' read read'
  pub put : Appends held held' (line (codes "too long"))

-- the script was carried out from the start to its end, no call of the source failed, and this line stands behind what was put instead of
-- a dump
pub record RanBefore (words : List (List ℕ)) (told : Told) (waiting : List WatcherState) (left left' : Option (List ℕ)) (read read' : ℕ) (held held' : Option (List ℕ)) (last : List ℕ)
    (to : WatchedStanding) : Type 0 where
  pub asked : Asked
  pub from : WatchedStanding
  pub starts : Starts words told waiting asked from
  pub between : Option (List ℕ)
  pub carried : Carried asked from to left left' held between
  pub calm : read' ≡ read
  pub put : Appends between held' (line last)

-- the dump would be longer than the limit
pub record LongDump (words : List (List ℕ)) (told : Told) (waiting : List WatcherState) (left left' : Option (List ℕ)) (read read' : ℕ) (held held' : Option (List ℕ)) : Type 0 where
  pub to : WatchedStanding
  pub ran : RanBefore words told waiting left left' read read' held held' (codes "too long") to
  pub name : List ℕ
  pub dumps : Dumps words name
  pub text : List ℕ
  pub dump : IsDumpText to.transactions text
  pub above : limit < length text

-- the loaded file couldn't be read
pub record UnreadLoad (words : List (List ℕ)) (left left' : Option (List ℕ)) (read read' : ℕ) (held held' : Option (List ℕ)) : Type 0 where
  pub name : List ℕ
  pub loads : Loads words name
  pub untouched : Untouched left left' read read'
  pub put : Appends held held' (line (codes "file fault"))

-- the dump couldn't be written
pub record UnwrittenDump (words : List (List ℕ)) (told : Told) (waiting : List WatcherState) (left left' : Option (List ℕ)) (read read' : ℕ) (held held' : Option (List ℕ)) : Type 0 where
  pub to : WatchedStanding
  pub ran : RanBefore words told waiting left left' read read' held held' (codes "file fault") to
  pub name : List ℕ
  pub dumps : Dumps words name

-- ---- files

-- the count of missing names stays, or it is one more and the words load a file of which it isn't told that it is there
abbrev pub Misses : List (List ℕ) → Told → ℕ → ℕ → Type 0
Misses words told was is = (is ≡ was) ⊎ ((name : List ℕ) × Loads words name × IsMissing (told name) × Rose was is)

-- a file is as it was, or the words name it to be written and P holds
abbrev pub StaysBut : List (List ℕ) → Told → Told → Type 0 → Type 0
StaysBut words told told' P = (file : List ℕ) → (told' file ≡ told file) ⊎ (Dumps words file × P)
