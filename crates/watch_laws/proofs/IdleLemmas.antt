-- Watches stay idle over statements.
use Rattle.std.specs.Prelude.{◌==◌, length, map, Option, Some, None, Ok, Err, if◌then◌else◌}
use Rattle.std.specs.Str.{bytes_eq}
use Rattle.std.proofs.Common.{◌≡◌, ◌+◌, ◌≤◌, ℕ, List, [], ◌∷◌, ◌++◌, Bool, true, false, refl, sym, ap, ◌∙◌, subst, arith}
use Rattle.par_base.specs.Checked.{Checked, ◌then◌}
use Rattle.par_base.specs.declared.refusal.Refusal.TheVariants.{NoWatcherLeft}
use Rattle.engine_state.specs.declared.reply.Reply.TheVariants.{Watching}
use Rattle.statements.specs.Views.{StatementView, CreateVersion, DropVersion, Insert, Import, Update, Delete, Select, Materialize, Step, ShowLayout, Use, Session, Advise, Watch, Unwatch, Begin, Commit, Rollback}
use Rattle.version_graph.specs.Edges.{set_named}
use Rattle.change_feed.specs.declared.note.Note.{Note}
use Rattle.change_feed.specs.declared.note.VersionNote.{VersionNote}
use Rattle.change_feed.specs.Feeds.{AllQuiet, event_told, events_told}
use Rattle.change_feed.specs.Watchers.{IsFresh, WatcherState, with_prepared, with_told}
use Rattle.change_feed.specs.Watches.{AllFresh, WatchState, WatchesState, note_for, taking, watch_of, watched, with_first, with_note, without_number, without_version}
use Rattle.change_feed.proofs.FeedLaws.{feeds}
use Rattle.engine_feeds.specs.TransactionsAct.{act as act_unwatched}
use Rattle.engine_feeds.specs.Answer.{Answer}
use Rattle.engine_feeds.specs.TheVariants.{Plain}
use Rattle.engine_feeds.specs.SharedChecks.{known_version}
use Rattle.engine_feeds.specs.TransactionsStanding.{Standing as TransactionsStanding}
use Rattle.engine_feeds.specs.Act.{act, can_watch, data_in, ended_at, taken_for, watches_behind}
use Rattle.engine_feeds.specs.VersionNotes.{first_note}
use Rattle.engine_feeds.specs.Notes.{event_notes}
use Rattle.engine_feeds.specs.Replies.{next_state}
use Rattle.engine_feeds.specs.Standing.{Standing}
use Rattle.watch_laws.specs.Moves.{AreIdle}
use Rattle.watch_laws.proofs.BesideLaws.{told_beside}
use Rattle.watch_laws.proofs.KindLemmas.{Kind, acting, kind_of, unwatching, watching}

-- ready for nothing, and a count of 64 bits
abbrev IsQuiet : WatcherState → Type 0
IsQuiet w = (w.prepared ≡ []) × (w.told ≤ 18446744073709551615)

-- ---- notes

quiet_told : (e : List VersionNote) (ws : List WatchState) → AllQuiet (map {A = WatchState} (λ w. record w { watcher = with_told w.watcher }) (map {A = WatchState} (λ w. record w { watcher = with_note (note_for e w.version) w.watcher }) ws))
quiet_told e [] = tt
quiet_told e (w ∷ ws) = ((refl, omega arith), quiet_told e ws)

idle_events : (es : List (List VersionNote)) (w : WatchesState) → AreIdle w → AreIdle (events_told es w)
idle_events [] w idle = idle
idle_events (e ∷ es) w idle = idle_events es (event_told e w) (record { live = quiet_told e w.live; waiting = idle.waiting })

-- an event without notes tells nothing
pub nothing_told : (w : WatchesState) → AllQuiet w.live → events_told ([] ∷ []) w ≡ w
nothing_told w quiet = feeds ([] ∷ []) w quiet ∙ sym (feeds [] w quiet)

-- ---- watches that go

quiet_others : (version : List ℕ) (ws : List WatchState) → AllQuiet ws → AllQuiet (without_version version ws)
quiet_others version [] quiet = tt
quiet_others version (w ∷ ws) quiet =
    elim (bytes_eq w.version version) as (λ b. AllQuiet (if b then without_version version ws else w ∷ without_version version ws)) [
      | true ↦ quiet_others version ws quiet.1
      | false ↦ (quiet.0, quiet_others version ws quiet.1)
    ]

quiet_rest : (number : ℕ) (ws : List WatchState) → AllQuiet ws → AllQuiet (without_number number ws)
quiet_rest number [] quiet = tt
quiet_rest number (w ∷ ws) quiet =
    elim (w.number == number) as (λ b. AllQuiet (if b then ws else w ∷ without_number number ws)) [
      | true ↦ quiet.1
      | false ↦ (quiet.0, quiet_rest number ws quiet.1)
    ]

idle_behind : (x : StatementView) (w : WatchesState) → AreIdle w → AreIdle (watches_behind x w)
idle_behind (CreateVersion name from operators) w idle = idle
idle_behind (DropVersion name) w idle = record { live = quiet_others name w.live idle.live; waiting = idle.waiting }
idle_behind (Insert table rows) w idle = idle
idle_behind (Import table bytes) w idle = idle
idle_behind (Update table assignments filter) w idle = idle
idle_behind (Delete table filter) w idle = idle
idle_behind (Select table items filter csv) w idle = idle
idle_behind (Materialize named in_steps) w idle = idle
idle_behind Step w idle = idle
idle_behind ShowLayout w idle = idle
idle_behind (Use name) w idle = idle
idle_behind (Session number) w idle = idle
idle_behind (Advise name) w idle = idle
idle_behind (Watch name) w idle = idle
idle_behind (Unwatch number) w idle = idle
idle_behind Begin w idle = idle
idle_behind Commit w idle = idle
idle_behind Rollback w idle = idle

-- ---- a watcher that is taken

fresh_quiet : (w : WatcherState) → IsFresh w → IsQuiet w
fresh_quiet w fresh = let none : w.told ≡ 0 = ap (λ (v : WatcherState). v.told) fresh in (ap (λ (v : WatcherState). v.prepared) fresh, omega (arith, none))

first_quiet : (note : Note) (w : WatcherState) → IsFresh w → IsQuiet (with_first note w)
first_quiet note w fresh =
    elim (length note.tables == 0) as (λ b. IsQuiet (if b then w else with_told (with_prepared note w))) [ true ↦ fresh_quiet w fresh | false ↦ (refl, omega arith) ]

quiet_push : (ws : List WatchState) (w : WatchState) → AllQuiet ws → IsQuiet w.watcher → AllQuiet (ws ++ w ∷ [])
quiet_push [] w quiet one = (one, tt)
quiet_push (v ∷ vs) w quiet one = (quiet.0, quiet_push vs w quiet.1 one)

idle_taking : (waiting : List WatcherState) (version : List ℕ) (first : Note) (s : WatchesState) → AllFresh waiting → AreIdle s → AreIdle (taking waiting s.last version first s)
idle_taking [] version first s fresh idle = idle
idle_taking (w ∷ ws) version first s fresh idle = record { live = quiet_push s.live _ idle.live (first_quiet first w fresh.0); waiting = fresh.1 }

-- ---- one statement

module _ (s : Standing) (idle : AreIdle s.watches) where
  idle_acted : (x : StatementView) (m : Checked (Answer × TransactionsStanding)) → AreIdle (next_state s (told_beside s x m)).watches
  idle_acted x (Ok answer) =
      let told : WatchesState = events_told (event_notes s.transactions x answer.1) s.watches in
      idle_behind x told (idle_events (event_notes s.transactions x answer.1) s.watches idle)
  idle_acted x (Err refusal) = idle

  idle_taken : (answer : Answer) (w : WatchesState) (b : Bool) → AreIdle w → AreIdle (next_state s (if b then Ok (answer, record s { watches = w }) else Err NoWatcherLeft)).watches
  idle_taken answer w true there = there
  idle_taken answer w false there = idle

  idle_watched : (name : List ℕ) (m : Checked ℕ) → AreIdle (next_state s (m then λ set. taken_for s name set)).watches
  idle_watched name (Ok set) =
      let first = first_note (data_in s) set in
      idle_taken (Plain (Watching (s.watches.last + 1))) (watched name first s.watches) (can_watch s.watches) (idle_taking s.watches.waiting name first s.watches idle.waiting idle)
  idle_watched name (Err refusal) = idle

  idle_ended : (number : ℕ) (o : Option WatchState) → AreIdle (next_state s (ended_at s number o)).watches
  idle_ended number None = idle
  idle_ended number (Some w) = record { live = quiet_rest number s.watches.live idle.live; waiting = idle.waiting }

  idle_by : (x : StatementView) → Kind x → AreIdle (next_state s (act s x)).watches
  idle_by x (watching name is) =
      subst (λ (y : StatementView). AreIdle (next_state s (act s y)).watches) (sym is) (idle_watched name (known_version name (set_named (data_in s).graph.versions name)))
  idle_by x (unwatching number is) = subst (λ (y : StatementView). AreIdle (next_state s (act s y)).watches) (sym is) (idle_ended number (watch_of number s.watches.live))
  idle_by x (acting none by) =
      subst (λ (m : Checked (Answer × Standing)). AreIdle (next_state s m).watches) (sym (by s)) (idle_acted x (act_unwatched s.transactions x))

  -- so they are behind each statement
  pub idle_next : (x : StatementView) → AreIdle (next_state s (act s x)).watches
  idle_next x = idle_by x (kind_of x)
