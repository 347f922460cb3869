-- The watches behind statements.
use Rattle.std.specs.Prelude.{Option, Some, None, Ok, Err, if◌then◌else◌}
use Rattle.std.proofs.Common.{◌≡◌, ◌+◌, ◌++◌, ℕ, Bool, true, false, List, [], ◌∷◌, refl, sym, subst}
use Rattle.par_base.specs.Checked.{Checked, ◌then◌}
use Rattle.par_base.specs.declared.refusal.Refusal.{Refusal}
use Rattle.par_base.specs.declared.refusal.Refusal.TheVariants.{NoWatcherLeft}
use Rattle.statements.specs.Views.{StatementView, CreateVersion, DropVersion, Insert, Import, Update, Delete, Select, Materialize, Step, ShowLayout, Use, Session, Advise, Watch, Unwatch, Begin, Commit, Rollback}
use Rattle.version_graph.specs.Edges.{set_named}
use Rattle.change_feed.specs.declared.note.VersionNote.{VersionNote}
use Rattle.change_feed.specs.Feeds.{events_told, notes_of}
use Rattle.change_feed.specs.Watches.{WatchState, WatchesState, watch_of, watched}
use Rattle.version_notes.specs.Notes.{first_note}
use Rattle.version_notes.proofs.ToldLaws.{AreSound, Steps, append_none, notes_more, rows_counted, steps_dropped, steps_ended, steps_said, steps_same, steps_taken, steps_then, steps_told, was_told}
use Rattle.engine_state.specs.SharedChecks.{known_version}
use Rattle.engine_state.specs.declared.reply.Reply.TheVariants.{Watching}
use Rattle.engine_transactions.specs.Answer.{Answer}
use Rattle.engine_transactions.specs.Answer.TheVariants.{Plain}
use Rattle.engine_transactions.specs.Act.{act as act_unwatched}
use Rattle.engine_transactions.specs.Standing.{Standing as TransactionsStanding}
use Rattle.engine_feeds.specs.Act.{act, can_watch, data_in, ended_at, taken_for, told_of, watches_behind}
use Rattle.engine_feeds.specs.Replies.{next_state, state_after}
use Rattle.engine_feeds.specs.Laws.{told_in, told_in_all, RowsAreCounted, WatchesAreTold}
use Rattle.engine_feeds.specs.Notes.{event_notes}
use Rattle.engine_feeds.specs.Standing.{Standing}

module _ (number : ℕ) where
  -- ---- WATCH and UNWATCH

  taken_steps : (s : Standing) (name : List ℕ) (set : ℕ) (b : Bool) → AreSound s.watches
      → Steps number (λ version. []) s.watches (next_state s (if b then Ok (Plain (Watching (s.watches.last + 1)), record s { watches = watched name (first_note (data_in s) set) s.watches }) else Err NoWatcherLeft)).watches
  taken_steps s name set true sound = steps_taken number s.watches.waiting name (first_note (data_in s) set) s.watches sound.fresh sound
  taken_steps s name set false sound = steps_same number s.watches sound

  watch_steps : (s : Standing) (name : List ℕ) (c : Checked ℕ) → AreSound s.watches → Steps number (λ version. []) s.watches (next_state s (c then λ set. taken_for s name set)).watches
  watch_steps s name (Ok set) sound = taken_steps s name set (can_watch s.watches) sound
  watch_steps s name (Err refusal) sound = steps_same number s.watches sound

  unwatch_steps : (s : Standing) (ended : ℕ) (o : Option WatchState) → AreSound s.watches → Steps number (λ version. []) s.watches (next_state s (ended_at s ended o)).watches
  unwatch_steps s ended None sound = steps_same number s.watches sound
  unwatch_steps s ended (Some w) sound = steps_ended number ended s.watches sound

  -- ---- every other statement

  behind_steps : (x : StatementView) (w : WatchesState) → AreSound w → Steps number (λ version. []) w (watches_behind x w)
  behind_steps (DropVersion name) w sound = steps_dropped number name w sound
  behind_steps (CreateVersion name from operators) w sound = steps_same number w sound
  behind_steps (Insert name rows) w sound = steps_same number w sound
  behind_steps (Import name text) w sound = steps_same number w sound
  behind_steps (Update name assignments filter) w sound = steps_same number w sound
  behind_steps (Delete name filter) w sound = steps_same number w sound
  behind_steps (Select name items filter csv) w sound = steps_same number w sound
  behind_steps (Materialize named in_steps) w sound = steps_same number w sound
  behind_steps Step w sound = steps_same number w sound
  behind_steps ShowLayout w sound = steps_same number w sound
  behind_steps (Use name) w sound = steps_same number w sound
  behind_steps (Session session) w sound = steps_same number w sound
  behind_steps (Advise name) w sound = steps_same number w sound
  behind_steps (Watch name) w sound = steps_same number w sound
  behind_steps (Unwatch ended) w sound = steps_same number w sound
  behind_steps Begin w sound = steps_same number w sound
  behind_steps Commit w sound = steps_same number w sound
  behind_steps Rollback w sound = steps_same number w sound

  told_steps : (x : StatementView) (es : List (List VersionNote)) (w : WatchesState) → AreSound w → Steps number (notes_of es) w (watches_behind x (events_told es w))
  told_steps x es w sound =
      let first = steps_told number es w sound in
      steps_said number (λ version. notes_of es version ++ []) (notes_of es) w (watches_behind x (events_told es w)) (λ version. append_none (notes_of es version))
      (steps_then number (notes_of es) (λ version. []) w (events_told es w) (watches_behind x (events_told es w)) first (behind_steps x (events_told es w) first.sound))

  -- where these are its notes
  abbrev with_watches : Standing → StatementView → Answer × TransactionsStanding → Checked (Answer × Standing)
  with_watches s x answer = Ok (answer.0, record { transactions = answer.1; watches = told_of s.transactions x answer.1 s.watches })

  other_steps : (s : Standing) (x : StatementView) (told : Checked (Answer × Standing) → List (List VersionNote)) (c : Checked (Answer × TransactionsStanding)) → ((r : Refusal) → told (Err r) ≡ []) → ((a : Answer × Standing) → told (Ok a) ≡ event_notes s.transactions x a.1.transactions) → AreSound s.watches
      → Steps number (notes_of (told (c then with_watches s x))) s.watches (next_state s (c then with_watches s x)).watches
  other_steps s x told (Err r) none some sound = subst (λ (es : List (List VersionNote)). Steps number (notes_of es) s.watches s.watches) (sym (none r)) (steps_same number s.watches sound)
  other_steps s x told (Ok a) none some sound =
      let notes = event_notes s.transactions x a.1 in
      let next : Answer × Standing = (a.0, record { transactions = a.1; watches = told_of s.transactions x a.1 s.watches }) in
      subst (λ (es : List (List VersionNote)). Steps number (notes_of es) s.watches (told_of s.transactions x a.1 s.watches)) (sym (some next)) (told_steps x notes s.watches sound)

  -- ---- one statement

  abbrev Acts : Standing → StatementView → Type 0
  Acts s x = Steps number (notes_of (told_in s x (act s x))) s.watches (next_state s (act s x)).watches

  other : (s : Standing) (x : StatementView) → ((r : Refusal) → told_in s x (Err r) ≡ []) → ((a : Answer × Standing) → told_in s x (Ok a) ≡ event_notes s.transactions x a.1.transactions) → AreSound s.watches
      → Steps number (notes_of (told_in s x (act_unwatched s.transactions x then with_watches s x))) s.watches (next_state s (act_unwatched s.transactions x then with_watches s x)).watches
  other s x none some sound = other_steps s x (told_in s x) (act_unwatched s.transactions x) none some sound

  act_steps : (s : Standing) (x : StatementView) → AreSound s.watches → Acts s x
  act_steps s (Watch name) sound = watch_steps s name (known_version name (set_named (data_in s).graph.versions name)) sound
  act_steps s (Unwatch ended) sound = unwatch_steps s ended (watch_of ended s.watches.live) sound
  act_steps s (CreateVersion name from operators) sound = other s (CreateVersion name from operators) (λ r. refl) (λ a. refl) sound
  act_steps s (DropVersion name) sound = other s (DropVersion name) (λ r. refl) (λ a. refl) sound
  act_steps s (Insert name rows) sound = other s (Insert name rows) (λ r. refl) (λ a. refl) sound
  act_steps s (Import name text) sound = other s (Import name text) (λ r. refl) (λ a. refl) sound
  act_steps s (Update name assignments filter) sound = other s (Update name assignments filter) (λ r. refl) (λ a. refl) sound
  act_steps s (Delete name filter) sound = other s (Delete name filter) (λ r. refl) (λ a. refl) sound
  act_steps s (Select name items filter csv) sound = other s (Select name items filter csv) (λ r. refl) (λ a. refl) sound
  act_steps s (Materialize named in_steps) sound = other s (Materialize named in_steps) (λ r. refl) (λ a. refl) sound
  act_steps s Step sound = other s Step (λ r. refl) (λ a. refl) sound
  act_steps s ShowLayout sound = other s ShowLayout (λ r. refl) (λ a. refl) sound
  act_steps s (Use name) sound = other s (Use name) (λ r. refl) (λ a. refl) sound
  act_steps s (Session session) sound = other s (Session session) (λ r. refl) (λ a. refl) sound
  act_steps s (Advise name) sound = other s (Advise name) (λ r. refl) (λ a. refl) sound
  act_steps s Begin sound = other s Begin (λ r. refl) (λ a. refl) sound
  act_steps s Commit sound = other s Commit (λ r. refl) (λ a. refl) sound
  act_steps s Rollback sound = other s Rollback (λ r. refl) (λ a. refl) sound

  -- ---- one after the other

  all_steps : (s : Standing) (xs : List StatementView) → AreSound s.watches → Steps number (notes_of (told_in_all s xs)) s.watches (state_after s xs).watches
  unfolding state_after
  all_steps s [] sound = steps_same number s.watches sound
  all_steps s (x ∷ xs) sound =
      let next = next_state s (act s x) in
      let first = act_steps s x sound in
      let a = told_in s x (act s x) in
      let b = told_in_all next xs in
      steps_said number (λ version. notes_of a version ++ notes_of b version) (notes_of (a ++ b)) s.watches (state_after next xs).watches (λ version. sym (notes_more a b version))
      (steps_then number (notes_of a) (notes_of b) s.watches next.watches (state_after next xs).watches first (all_steps next xs first.sound))

pub told : WatchesAreTold
told s xs number w v fresh quiet numbered was is =
    let sound : AreSound s.watches = record { fresh = fresh; quiet = quiet; numbered = numbered } in
    was_told number (notes_of (told_in_all s xs)) s.watches (state_after s xs).watches w v sound (all_steps number s xs sound) was is

pub counted : RowsAreCounted
counted s number w rows quiet is shown = rows_counted (data_in s) s.watches number w rows quiet is shown
