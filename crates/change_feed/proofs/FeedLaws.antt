-- What live watches have been told after events.
use Rattle.std.proofs.Common.{◌≡◌, ℕ, ◌+◌, ◌≤◌, List, [], ◌∷◌, ◌++◌, length, map, Option, Some, None, refl, sym, ◌∙◌, ap, arith}
use Rattle.std.specs.Option.{option_map}
use Rattle.change_feed.specs.declared.note.Note.{Note}
use Rattle.change_feed.specs.declared.note.VersionNote.{VersionNote}
use Rattle.change_feed.specs.Shown.{Named, after_notes}
use Rattle.change_feed.specs.Watchers.{WatcherState, counted, with_cleared, with_told}
use Rattle.change_feed.specs.Watches.{WatchState, WatchesState, all_cleared, all_prepared, all_told, each_watch, note_for, with_note}
use Rattle.change_feed.specs.Feeds.{event_told, events_prepared, with_one, notes_of, told_these, AllQuiet, FeedsAreTold, PreparedAreCleared, PreparedAreTold}
use Rattle.change_feed.proofs.LiveLemmas.{same_state}

same_watcher : (a : List Note) (m n : ℕ) (h g : Option (List Note)) (s t : Option Named) → m ≡ n → h ≡ g → s ≡ t → (let v : WatcherState = record { prepared = a; told = m; heard = h; shown = s } in let w : WatcherState = record { prepared = a; told = n; heard = g; shown = t } in v ≡ w)
same_watcher a m n h g s t p q r = λ i. record { prepared = a; told = p i; heard = q i; shown = r i }

append_none : {A : Type 0} (xs : List A) → xs ++ [] ≡ xs
append_none [] = refl
append_none (x ∷ xs) = ap (λ ys. x ∷ ys) (append_none xs)

joined : {A : Type 0} (a b c : List A) → (a ++ b) ++ c ≡ a ++ (b ++ c)
joined [] b c = refl
joined (x ∷ a) b c = ap (λ zs. x ∷ zs) (joined a b c)

heard_none : (h : Option (List Note)) → option_map (λ before. before ++ []) h ≡ h
heard_none None = refl
heard_none (Some before) = ap Some (append_none before)

shown_none : (s : Option Named) → option_map (after_notes []) s ≡ s
shown_none None = refl
shown_none (Some tables) = refl

heard_two : (h : Option (List Note)) (xs ys : List Note) → option_map (λ before. before ++ ys) (option_map (λ before. before ++ xs) h) ≡ option_map (λ before. before ++ (xs ++ ys)) h
heard_two None xs ys = refl
heard_two (Some before) xs ys = ap Some (joined before xs ys)

after_two : (xs ys : List Note) (tables : Named) → after_notes ys (after_notes xs tables) ≡ after_notes (xs ++ ys) tables
after_two [] ys tables = refl
after_two (x ∷ xs) ys tables = after_two xs ys _

shown_two : (s : Option Named) (xs ys : List Note) → option_map (after_notes ys) (option_map (after_notes xs) s) ≡ option_map (after_notes (xs ++ ys)) s
shown_two None xs ys = refl
shown_two (Some tables) xs ys = ap Some (after_two xs ys tables)

one_of : Option Note → List Note
one_of None = []
one_of (Some note) = note ∷ []

one_step : (o : Option Note) (ns : List Note) (w : WatcherState) → w.prepared ≡ [] → told_these ns (with_told (with_note o w)) ≡ told_these (with_one o ns) w
one_step None ns w e =
    same_watcher [] _ _ _ _ _ _
    (omega (arith, ap length e))
    (ap (λ ps. option_map (λ before. before ++ ns) (option_map (λ before. before ++ ps) w.heard)) e ∙ heard_two w.heard [] ns)
    (ap (λ ps. option_map (after_notes ns) (option_map (after_notes ps) w.shown)) e ∙ shown_two w.shown [] ns)
one_step (Some note) ns w e =
    let f : w.prepared ++ note ∷ [] ≡ note ∷ [] = ap (λ ps. ps ++ note ∷ []) e in
    same_watcher [] _ _ _ _ _ _
    (omega (arith, ap length f))
    (ap (λ ps. option_map (λ before. before ++ ns) (option_map (λ before. before ++ ps) w.heard)) f ∙ heard_two w.heard (note ∷ []) ns)
    (ap (λ ps. option_map (after_notes ns) (option_map (after_notes ps) w.shown)) f ∙ shown_two w.shown (note ∷ []) ns)

no_step : (w : WatcherState) → w.prepared ≡ [] → w.told ≤ 18446744073709551615 → w ≡ told_these [] w
no_step w e h =
    let told : counted (w.told + 0) ≡ w.told = omega arith in
    λ i. record { prepared = e i; told = sym told i; heard = sym (heard_none w.heard) i; shown = sym (shown_none w.shown) i }

still : (ws : List WatchState) → AllQuiet ws → ws ≡ map {A = WatchState} (λ w. record w { watcher = told_these [] w.watcher }) ws
still [] h = refl
still (w ∷ ws) h = λ i. record w { watcher = no_step w.watcher h.0.0 h.0.1 i } ∷ still ws h.1 i

steps : (e : List VersionNote) (es : List (List VersionNote)) (ws : List WatchState) → AllQuiet ws
    → map {A = WatchState} (λ w. record w { watcher = told_these (notes_of es w.version) w.watcher })
    (map {A = WatchState} (λ w. record w { watcher = with_told w.watcher }) (map {A = WatchState} (λ w. record w { watcher = with_note (note_for e w.version) w.watcher }) ws))
    ≡ map {A = WatchState} (λ w. record w { watcher = told_these (notes_of (e ∷ es) w.version) w.watcher }) ws
steps e es [] h = refl
steps e es (w ∷ ws) h = λ i. record w { watcher = one_step (note_for e w.version) (notes_of es w.version) w.watcher h.0.0 i } ∷ steps e es ws h.1 i

quiet : (e : List VersionNote) (ws : List WatchState) → AllQuiet (map {A = WatchState} (λ w. record w { watcher = with_told w.watcher }) (map {A = WatchState} (λ w. record w { watcher = with_note (note_for e w.version) w.watcher }) ws))
quiet e [] = tt
quiet e (w ∷ ws) = ((refl, omega arith), quiet e ws)

pub feeds : FeedsAreTold
feeds [] s h = same_state s.waiting s.waiting s.last s.last s.live _ refl refl (still s.live h)
feeds (e ∷ es) s h =
    feeds es (event_told e s) (quiet e s.live)
    ∙ same_state s.waiting s.waiting s.last s.last _ _ refl refl (steps e es s.live h)

-- ---- notes that wait

-- a watcher that is ready for these notes too
abbrev with_notes : List Note → WatcherState → WatcherState
with_notes notes w = record w { prepared = w.prepared ++ notes }

more_ready : (o : Option Note) (ns : List Note) (w : WatcherState) → with_notes ns (with_note o w) ≡ with_notes (with_one o ns) w
more_ready None ns w = refl
more_ready (Some note) ns w = ap (λ ps. record w { prepared = ps }) (joined w.prepared (note ∷ []) ns)

none_ready : (w : WatcherState) → w ≡ with_notes [] w
none_ready w = ap (λ ps. record w { prepared = ps }) (sym (append_none w.prepared))

ready_none : (ws : List WatchState) → ws ≡ map {A = WatchState} (λ w. record w { watcher = with_notes [] w.watcher }) ws
ready_none [] = refl
ready_none (w ∷ ws) = λ i. record w { watcher = none_ready w.watcher i } ∷ ready_none ws i

ready_more : (e : List VersionNote) (es : List (List VersionNote)) (ws : List WatchState) →
    map {A = WatchState} (λ w. record w { watcher = with_notes (notes_of es w.version) w.watcher }) (map {A = WatchState} (λ w. record w { watcher = with_note (note_for e w.version) w.watcher }) ws)
    ≡ map {A = WatchState} (λ w. record w { watcher = with_notes (notes_of (e ∷ es) w.version) w.watcher }) ws
ready_more e es [] = refl
ready_more e es (w ∷ ws) = λ i. record w { watcher = more_ready (note_for e w.version) (notes_of es w.version) w.watcher i } ∷ ready_more e es ws i

-- each live watch is ready for the notes of its version
pub ready : (es : List (List VersionNote)) (s : WatchesState) → events_prepared es s ≡ each_watch (λ version. with_notes (notes_of es version)) s
ready [] s = same_state s.waiting s.waiting s.last s.last _ _ refl refl (ready_none s.live)
ready (e ∷ es) s = ready es (all_prepared e s) ∙ same_state s.waiting s.waiting s.last s.last _ _ refl refl (ready_more e es s.live)

ready_told : (ns : List Note) (w : WatcherState) → w.prepared ≡ [] → with_told (with_notes ns w) ≡ told_these ns w
ready_told ns w e =
    let f : w.prepared ++ ns ≡ ns = ap (λ ps. ps ++ ns) e in
    same_watcher [] _ _ _ _ _ _ (ap (λ ps. counted (w.told + length ps)) f) (ap (λ ps. option_map (λ before. before ++ ps) w.heard) f) (ap (λ ps. option_map (after_notes ps) w.shown) f)

all_ready_told : (es : List (List VersionNote)) (ws : List WatchState) → AllQuiet ws
    → map {A = WatchState} (λ w. record w { watcher = with_told w.watcher }) (map {A = WatchState} (λ w. record w { watcher = with_notes (notes_of es w.version) w.watcher }) ws)
    ≡ map {A = WatchState} (λ w. record w { watcher = told_these (notes_of es w.version) w.watcher }) ws
all_ready_told es [] h = refl
all_ready_told es (w ∷ ws) h = λ i. record w { watcher = ready_told (notes_of es w.version) w.watcher h.0.0 i } ∷ all_ready_told es ws h.1 i

pub told : PreparedAreTold
told es s h =
    ap all_told (ready es s)
    ∙ same_state s.waiting s.waiting s.last s.last _ _ refl refl (all_ready_told es s.live h)
    ∙ sym (feeds es s h)

all_ready_cleared : (es : List (List VersionNote)) (ws : List WatchState) → AllQuiet ws
    → map {A = WatchState} (λ w. record w { watcher = with_cleared w.watcher }) (map {A = WatchState} (λ w. record w { watcher = with_notes (notes_of es w.version) w.watcher }) ws) ≡ ws
all_ready_cleared es [] h = refl
all_ready_cleared es (w ∷ ws) h = λ i. record w { watcher = record w.watcher { prepared = sym h.0.0 i } } ∷ all_ready_cleared es ws h.1 i

pub cleared : PreparedAreCleared
cleared es s h = ap all_cleared (ready es s) ∙ same_state s.waiting s.waiting s.last s.last _ _ refl refl (all_ready_cleared es s.live h)
