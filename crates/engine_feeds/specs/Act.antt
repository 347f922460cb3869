-- One event, with watches: the answer or refusal of a statement, and what stands behind it.
use Rattle.std.specs.Prelude.{ℕ, ◌+◌, ◌&&◌, nat_lt, Bool, List, length, Option, Some, None, Result, Ok, Err, if◌then◌else◌}
use Rattle.par_base.specs.declared.fault.Fault.{Fault}
use Rattle.par_base.specs.declared.refusal.Refusal.{Refusal}
use Rattle.par_base.specs.declared.refusal.Refusal.TheVariants.{NoWatcherLeft, UnknownWatch}
use Rattle.par_base.specs.Checked.{Checked, Gives, ◌then◌}
use Rattle.change_feed.specs.declared.watches.Left.{Left}
use Rattle.change_feed.specs.Feeds.{events_told}
use Rattle.change_feed.specs.Watches.{WatchState, WatchesState, left_of, watch_of, watched, without_number, without_version}
use Rattle.statements.specs.Views.{StatementView, DropVersion, Unwatch, Watch}
use Rattle.version_graph.specs.Edges.{set_named}
use Rattle.engine_state.specs.AnyDatabase.{AnyDatabase}
use Rattle.engine_state.specs.SharedChecks.{known_version}
use Rattle.engine_state.specs.declared.reply.Reply.TheVariants.{Unwatched, Watching}
use Rattle.engine_transactions.specs.Answer.{Answer}
use Rattle.engine_transactions.specs.Answer.TheVariants.{Plain}
use Rattle.engine_transactions.specs.Act.{act as act_unwatched}
use Rattle.engine_transactions.specs.Standing.{Standing as TransactionsStanding}
use Rattle.engine_feeds.specs.Notes.{event_notes}
use Rattle.engine_feeds.specs.Standing.{Standing}
use Rattle.version_notes.specs.Notes.{first_note}

-- the data of a standing
abbrev pub data_in : Standing → AnyDatabase
data_in s = s.transactions.sessions.laid.database

-- ---- WATCH

-- a watcher waits, and there is a number for it
abbrev pub can_watch : WatchesState → Bool
can_watch w = nat_lt 0 (length w.waiting) && nat_lt w.last 18446744073709551615

abbrev pub taken_for : Standing → List ℕ → ℕ → Checked (Answer × Standing)
taken_for s name set =
    if can_watch s.watches
    then Ok (Plain (Watching (s.watches.last + 1)), record s { watches = watched name (first_note (data_in s) set) s.watches })
    else Err NoWatcherLeft

-- the first watcher that waits is taken for the version, under the next number, and told all rows as added
abbrev pub watched_by : Standing → List ℕ → Checked (Answer × Standing)
watched_by s name = known_version name (set_named (data_in s).graph.versions name) then λ set. taken_for s name set

-- ---- UNWATCH

abbrev pub ended_at : Standing → ℕ → Option WatchState → Checked (Answer × Standing)
ended_at s number None = Err (UnknownWatch number)
ended_at s number (Some w) =
    let left : Left = left_of w in
    Ok (Plain (Unwatched number left.told left.rows), record s { watches = record s.watches { live = without_number number s.watches.live } })

-- the watch ends, and tells what it leaves
abbrev pub ended_by : Standing → ℕ → Checked (Answer × Standing)
ended_by s number = ended_at s number (watch_of number s.watches.live)

-- ---- every other statement

-- the watches that live behind it: a dropped version takes its own along
abbrev pub watches_behind : StatementView → WatchesState → WatchesState
watches_behind (DropVersion name) w = record w { live = without_version name w.live }
watches_behind _ w = w

-- EACH LIVE WATCH IS TOLD the notes of its version, in the order of the writes
abbrev pub told_of : TransactionsStanding → StatementView → TransactionsStanding → WatchesState → WatchesState
told_of s statement next w = watches_behind statement (events_told (event_notes s statement next) w)

abbrev pub acted_by : Standing → StatementView → Checked (Answer × Standing)
acted_by s statement =
    act_unwatched s.transactions statement then λ answer.
    Ok (answer.0, record { transactions = answer.1; watches = told_of s.transactions statement answer.1 s.watches })

-- ONE EVENT
abbrev pub act : Standing → StatementView → Checked (Answer × Standing)
act s (Watch name) = watched_by s name
act s (Unwatch number) = ended_by s number
act s statement = acted_by s statement

-- a call answers and leaves that, or the refusal, unless memory ran out
abbrev pub Answers : Checked (Answer × Standing) → Result Answer (Fault Refusal) → Standing → Type 0
Answers model result next = Gives (λ answer. (answer, next)) result model
