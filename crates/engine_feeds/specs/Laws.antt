-- Laws of watches.
use Rattle.std.specs.Prelude.{◌≡◌, ℕ, List, [], ◌∷◌, ◌++◌, Some, Ok, Err}
use Rattle.par_base.specs.Checked.{Checked}
use Rattle.change_feed.specs.declared.note.VersionNote.{VersionNote}
use Rattle.change_feed.specs.Feeds.{AllQuiet, notes_of, told_these}
use Rattle.change_feed.specs.Shown.{count_rows}
use Rattle.change_feed.specs.Watchers.{counted, rows_shown}
use Rattle.change_feed.specs.Watches.{AllFresh, WatchState, watch_of}
use Rattle.statements.specs.Views.{StatementView, Unwatch, Watch}
use Rattle.engine_transactions.specs.Answer.{Answer}
use Rattle.version_notes.specs.Mirrors.{AreQuiet}
use Rattle.version_notes.specs.Numbers.{AreNumbered}
use Rattle.version_notes.specs.Versions.{tables_of}
use Rattle.engine_feeds.specs.Act.{act, data_in}
use Rattle.engine_feeds.specs.Notes.{event_notes}
use Rattle.engine_feeds.specs.Replies.{next_state, state_after}
use Rattle.engine_feeds.specs.Standing.{Standing}

-- the notes of statements, in order; WATCH, UNWATCH and refused ones have none
abbrev pub told_in : Standing → StatementView → Checked (Answer × Standing) → List (List VersionNote)
told_in s (Watch name) answer = []
told_in s (Unwatch number) answer = []
told_in s x (Err refusal) = []
told_in s x (Ok answer) = event_notes s.transactions x answer.1.transactions

abbrev pub told_in_all : Standing → List StatementView → List (List VersionNote)
told_in_all s [] = []
told_in_all s (x ∷ xs) = told_in s x (act s x) ++ told_in_all (next_state s (act s x)) xs

-- EACH LIVE WATCH HAS BEEN TOLD THE NOTES OF ITS VERSION: one that lived before statements and lives behind them was told exactly these, in order, and heard and shows what they say
abbrev pub WatchesAreTold : Type 0
WatchesAreTold =
    (s : Standing) (xs : List StatementView) (number : ℕ) (w v : WatchState) → AllFresh s.watches.waiting → AllQuiet s.watches.live → AreNumbered 0 s.watches.live s.watches.last
    → watch_of number s.watches.live ≡ Some w → watch_of number (state_after s xs).watches.live ≡ Some v
    → (v.version ≡ w.version) × (v.watcher ≡ told_these (notes_of (told_in_all s xs) w.version) w.watcher)

-- A MIRROR SHOWS AS MANY ROWS AS ITS VERSION HAS: the rows that a watch tells are those of its version's tables
abbrev pub RowsAreCounted : Type 0
RowsAreCounted =
    (s : Standing) (number : ℕ) (w : WatchState) (rows : ℕ) → AreQuiet (data_in s) s.watches → watch_of number s.watches.live ≡ Some w
    → rows_shown w.watcher ≡ Some rows → rows ≡ counted (count_rows (tables_of (data_in s) w.version))
