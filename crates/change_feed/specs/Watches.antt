-- What contracts see of the watches of an engine, and what each call makes of them.
use Rattle.std.specs.Prelude.{ℕ, ◌+◌, ◌<◌, ◌==◌, List, [], ◌∷◌, ◌++◌, length, map, Option, Some, None, if◌then◌else◌}
use Rattle.std.specs.Str.{bytes_eq}
use Rattle.change_feed.specs.declared.note.Note.{Note}
use Rattle.change_feed.specs.declared.note.VersionNote.{VersionNote}
use Rattle.change_feed.specs.declared.watches.Left.{Left}
use Rattle.change_feed.specs.Watchers.{WatcherState, MayPrepare, HasPrepared, with_prepared, without_last, with_cleared, with_told, rows_shown, IsFresh}

-- a live watch
pub record WatchState : Type 0 where
  pub number : ℕ
  pub version : List ℕ
  pub watcher : WatcherState

-- the watchers that wait, in order, the last watch number given, and the live watches, in the order of their numbers
pub record WatchesState : Type 0 where
  pub waiting : List WatcherState
  pub last : ℕ
  pub live : List WatchState

abbrev pub no_watches : WatchesState
no_watches = record { waiting = []; last = 0; live = [] }

-- watchers that were told nothing
abbrev pub AllFresh : List WatcherState → Type 0
AllFresh [] = Unit {0}
AllFresh (w ∷ ws) = IsFresh w × AllFresh ws

-- one more watcher waits
abbrev pub given : WatcherState → WatchesState → WatchesState
given w s = record s { waiting = s.waiting ++ w ∷ [] }

-- ---- watch and unwatch

-- a watcher waits, and there is a number for it
abbrev pub CanWatch : WatchesState → Type 0
CanWatch s = (0 < length s.waiting) × (s.last < 18446744073709551615)

-- a watcher after its first note, which is told it unless it names no table
abbrev pub with_first : Note → WatcherState → WatcherState
with_first note w = if length note.tables == 0 then w else with_told (with_prepared note w)

abbrev pub taking : List WatcherState → ℕ → List ℕ → Note → WatchesState → WatchesState
taking [] last version first s = s
taking (w ∷ ws) last version first s = record { waiting = ws; last = last + 1; live = s.live ++ record { number = last + 1; version = version; watcher = with_first first w } ∷ [] }

-- WATCH: the first watcher that waits is taken, under the next number
abbrev pub watched : List ℕ → Note → WatchesState → WatchesState
watched version first s = taking s.waiting s.last version first s

-- the live watch of a number
abbrev pub watch_of : ℕ → List WatchState → Option WatchState
watch_of n [] = None
watch_of n (w ∷ ws) = if w.number == n then Some w else watch_of n ws

-- the others
abbrev pub without_number : ℕ → List WatchState → List WatchState
without_number n [] = []
without_number n (w ∷ ws) = if w.number == n then ws else w ∷ without_number n ws

-- what a watcher leaves, and a watch
abbrev pub left_by : WatcherState → Left
left_by w = record { told = w.told; rows = rows_shown w }

abbrev pub left_of : WatchState → Left
left_of w = left_by w.watcher

abbrev pub heard_by : Option WatchState → Option (List Note)
heard_by None = None
heard_by (Some w) = w.watcher.heard

-- what the live watch of a number has heard, where there is one that tells it
abbrev pub heard_of : ℕ → WatchesState → Option (List Note)
heard_of n s = heard_by (watch_of n s.live)

-- the live watches of other versions
abbrev pub without_version : List ℕ → List WatchState → List WatchState
without_version version [] = []
without_version version (w ∷ ws) = if bytes_eq w.version version then without_version version ws else w ∷ without_version version ws

-- ---- notes

-- the note of a version
abbrev pub note_for : List VersionNote → List ℕ → Option Note
note_for [] version = None
note_for (n ∷ ns) version = if bytes_eq n.version version then Some n.note else note_for ns version

abbrev pub MayHear : Option Note → WatcherState → Type 0
MayHear None w = Unit {0}
MayHear (Some note) w = MayPrepare w note

abbrev pub with_note : Option Note → WatcherState → WatcherState
with_note None w = w
with_note (Some note) w = with_prepared note w

abbrev pub HasHeard : Option Note → WatcherState → Type 0
HasHeard None w = Unit {0}
HasHeard (Some note) w = HasPrepared w

abbrev pub without_note : Option Note → WatcherState → WatcherState
without_note None w = w
without_note (Some note) w = without_last w

-- each live watch may be told the note of its version
abbrev pub AllMayPrepare : List VersionNote → List WatchState → Type 0
AllMayPrepare notes [] = Unit {0}
AllMayPrepare notes (w ∷ ws) = MayHear (note_for notes w.version) w.watcher × AllMayPrepare notes ws

-- each live watch with another watcher state
abbrev pub each_watch : (List ℕ → WatcherState → WatcherState) → WatchesState → WatchesState
each_watch f s = record s { live = map {A = WatchState} (λ w. record w { watcher = f w.version w.watcher }) s.live }

-- EACH LIVE WATCH IS READY for the note of its version
abbrev pub all_prepared : List VersionNote → WatchesState → WatchesState
all_prepared notes s = each_watch (λ version. with_note (note_for notes version)) s

-- each live watch is ready for no note
abbrev pub all_cleared : WatchesState → WatchesState
all_cleared s = each_watch (λ version. with_cleared) s

-- EACH LIVE WATCH IS TOLD all notes for which it is ready
abbrev pub all_told : WatchesState → WatchesState
all_told s = each_watch (λ version. with_told) s
