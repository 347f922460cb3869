-- Live watches stay quiet: what is given, taken, left and dropped, and where nothing is told.
use Rattle.std.specs.Prelude.{Option, Some, None, IsSome}
use Rattle.std.specs.Option.{option_map}
use Rattle.std.specs.Str.{bytes_eq}
use Rattle.std.proofs.Common.{◌≡◌, ◌≤◌, ◌+◌, ◌==◌, ◌++◌, if◌then◌else◌, ℕ, Bool, true, false, List, [], ◌∷◌, map, length, refl, ap, sym, ◌∙◌, subst, arith}
use Rattle.std.proofs.lemmas.Bool.{ne_eqb}
use Rattle.version_graph.specs.Edges.{set_named, working}
use Rattle.version_graph.specs.Sets.{Each}
use Rattle.version_model.specs.Kept.{Database}
use Rattle.change_feed.specs.declared.note.Note.{Note}
use Rattle.change_feed.specs.declared.note.TableChange.{TableChange}
use Rattle.change_feed.specs.declared.note.VersionNote.{VersionNote}
use Rattle.change_feed.specs.Feeds.{AllQuiet, events_told}
use Rattle.change_feed.specs.Shown.{Fit, Named, after_changes, after_notes}
use Rattle.change_feed.specs.Watchers.{IsFresh, WatcherState, counted, with_prepared, with_told}
use Rattle.change_feed.specs.Watches.{AllFresh, WatchState, WatchesState, given, note_for, taking, watched, with_first, with_note, without_number, without_version}
use Rattle.feed_mirror.specs.Laws.{Shows}
use Rattle.feed_mirror.proofs.MirrorLaws.{start}
use Rattle.version_notes.specs.Versions.{tables_at, tables_in, tables_of}
use Rattle.version_notes.specs.Differences.{note_between}
use Rattle.version_notes.specs.Mirrors.{AllFollow, AreQuiet, Follows, WillShow}
use Rattle.version_notes.specs.Notes.{first_note, notes_between}
use Rattle.version_notes.specs.Runs.{IsOrdered}
use Rattle.version_notes.proofs.NoteLaws.{apart_at, between_has, from_empty, is_note, none_between}
use Rattle.version_notes.proofs.QuietLaws.{noted}

-- ---- where nothing is told

append_none : {A : Type 0} (xs : List A) → xs ++ [] ≡ xs
append_none [] = refl
append_none (x ∷ xs) = ap (λ ys. x ∷ ys) (append_none xs)

heard_none : (h : Option (List Note)) → option_map (λ before. before ++ []) h ≡ h
heard_none None = refl
heard_none (Some before) = ap Some (append_none before)

shown_none : (s : Option Named) → option_map (after_notes []) s ≡ s
shown_none None = refl
shown_none (Some tables) = refl

told_none : (w : WatcherState) → w.prepared ≡ [] → w.told ≤ 18446744073709551615 → with_told w ≡ w
told_none w e h =
    let told : counted (w.told + length w.prepared) ≡ w.told = omega (arith, ap length e, h) in
    let heard : option_map (λ before. before ++ w.prepared) w.heard ≡ w.heard = ap (λ ps. option_map (λ before. before ++ ps) w.heard) e ∙ heard_none w.heard in
    let shown : option_map (after_notes w.prepared) w.shown ≡ w.shown = ap (λ ps. option_map (after_notes ps) w.shown) e ∙ shown_none w.shown in
    λ i. record { prepared = sym e i; told = told i; heard = heard i; shown = shown i }

-- a watch that has no note, or is dropped
abbrev HearsNothing : List VersionNote → WatchState → Type 0
HearsNothing notes w = note_for notes w.version ≡ None

watch_told : (notes : List VersionNote) (w : WatchState) → HearsNothing notes w → w.watcher.prepared ≡ [] → w.watcher.told ≤ 18446744073709551615 → with_told (with_note (note_for notes w.version) w.watcher) ≡ w.watcher
watch_told notes w none e h = ap (λ (o : Option Note). with_told (with_note o w.watcher)) none ∙ told_none w.watcher e h

pub told_nothing : (notes : List VersionNote) (s : WatchesState) → AllQuiet s.live → Each (HearsNothing notes) s.live → events_told (notes ∷ []) s ≡ s
told_nothing notes s quiet none = ap (λ (live : List WatchState). record s { live = live }) (go s.live quiet none)
  where
    go : (live : List WatchState) → AllQuiet live → Each (HearsNothing notes) live → map {A = WatchState} (λ w. record w { watcher = with_told w.watcher }) (noted notes live) ≡ live
    go [] quiet none = refl
    go (w ∷ live) quiet none = λ i. record w { watcher = watch_told notes w none.0 quiet.0.0 quiet.0.1 i } ∷ go live quiet.1 none.1 i

-- those that stay behind a drop heard nothing
abbrev StaysSilent : List ℕ → List VersionNote → WatchState → Type 0
StaysSilent version notes w = bytes_eq w.version version ≡ false → HearsNothing notes w

drop_one : (version : List ℕ) (w v : WatchState) (ws vs : List WatchState) (b : Bool) → bytes_eq w.version version ≡ b → w.version ≡ v.version → (b ≡ false → v ≡ w) → without_version version vs ≡ without_version version ws
    → without_version version (v ∷ vs) ≡ without_version version (w ∷ ws)
drop_one version w v ws vs true is same keeps rest =
    ap (λ (b : Bool). if b then without_version version vs else v ∷ without_version version vs) (ap (λ (name : List ℕ). bytes_eq name version) (sym same) ∙ is)
    ∙ rest ∙ sym (ap (λ (b : Bool). if b then without_version version ws else w ∷ without_version version ws) is)
drop_one version w v ws vs false is same keeps rest =
    ap (λ (b : Bool). if b then without_version version vs else v ∷ without_version version vs) (ap (λ (name : List ℕ). bytes_eq name version) (sym same) ∙ is)
    ∙ (λ i. keeps refl i ∷ rest i) ∙ sym (ap (λ (b : Bool). if b then without_version version ws else w ∷ without_version version ws) is)

silent_dropped : (version : List ℕ) (notes : List VersionNote) (live : List WatchState) → AllQuiet live → Each (StaysSilent version notes) live
    → without_version version (map {A = WatchState} (λ w. record w { watcher = with_told w.watcher }) (noted notes live)) ≡ without_version version live
silent_dropped version notes [] quiet silent = refl
silent_dropped version notes (w ∷ live) quiet silent =
    drop_one version w (record w { watcher = with_told (with_note (note_for notes w.version) w.watcher) }) live (map {A = WatchState} (λ w. record w { watcher = with_told w.watcher }) (noted notes live)) (bytes_eq w.version version) refl refl
    (λ off. (λ i. record w { watcher = watch_told notes w (silent.0 off) quiet.0.0 quiet.0.1 i }))
    (silent_dropped version notes live quiet.1 silent.1)

pub dropped_silent : (version : List ℕ) (notes : List VersionNote) (s : WatchesState) → AllQuiet s.live → Each (StaysSilent version notes) s.live
    → (let t : WatchesState = events_told (notes ∷ []) s in record t { live = without_version version t.live }) ≡ record s { live = without_version version s.live }
dropped_silent version notes s quiet silent = ap (λ (live : List WatchState). record s { live = live }) (silent_dropped version notes s.live quiet silent)

-- ---- other data, with the same tables of the versions that are watched

module _ {O : Type 0} (d later : Database O) where
  -- the version lives there with the same tables
  abbrev pub SameTables : List ℕ → Type 0
  SameTables version = IsSome (set_named later.graph.versions version) × (tables_of later version ≡ tables_of d version)

  abbrev pub SameWatched : WatchState → Type 0
  SameWatched w = SameTables w.version

  -- so there is nothing to tell
  pub nothing_between : (live : List WatchState) → Each SameWatched live → Each (HearsNothing (notes_between d later)) live
  nothing_between [] same = tt
  nothing_between (w ∷ live) same =
      (between_has d later w.version ∙ ap (λ (now : Named). note_between (tables_of d w.version) now) same.0.1 ∙ none_between (tables_of d w.version), nothing_between live same.1)

  follow_there : (live : List WatchState) → Each SameWatched live → AllFollow d live → AllFollow later live
  follow_there [] same follows = tt
  follow_there (w ∷ live) same follows =
      (record { lives = same.0.0; shows = subst (λ (tables : Named). WillShow tables w.watcher w.watcher.shown) (sym same.0.1) follows.0.shows }, follow_there live same.1 follows.1)

  pub quiet_there : (s : WatchesState) → Each SameWatched s.live → AreQuiet d s → AreQuiet later s
  quiet_there s same quiet = record { fresh = quiet.fresh; quiet = quiet.quiet; follow = follow_there s.live same quiet.follow }

-- ---- fewer watches

module _ {O : Type 0} (d : Database O) where
  without_number_quiet : (n : ℕ) (live : List WatchState) → AllQuiet live → AllQuiet (without_number n live)
  without_number_quiet n [] quiet = tt
  without_number_quiet n (w ∷ live) quiet = one (w.number == n) (without_number n live) (without_number_quiet n live quiet.1)
    where
      one : (b : Bool) (rest : List WatchState) → AllQuiet rest → AllQuiet (if b then live else w ∷ rest)
      one true rest h = quiet.1
      one false rest h = (quiet.0, h)

  without_number_follow : (n : ℕ) (live : List WatchState) → AllFollow d live → AllFollow d (without_number n live)
  without_number_follow n [] follows = tt
  without_number_follow n (w ∷ live) follows = one (w.number == n) (without_number n live) (without_number_follow n live follows.1)
    where
      one : (b : Bool) (rest : List WatchState) → AllFollow d rest → AllFollow d (if b then live else w ∷ rest)
      one true rest h = follows.1
      one false rest h = (follows.0, h)

  pub quiet_left : (n : ℕ) (s : WatchesState) → AreQuiet d s → AreQuiet d (record s { live = without_number n s.live })
  quiet_left n s quiet = record { fresh = quiet.fresh; quiet = without_number_quiet n s.live quiet.quiet; follow = without_number_follow n s.live quiet.follow }

-- ---- behind a drop

without_version_quiet : (version : List ℕ) (live : List WatchState) → AllQuiet live → AllQuiet (without_version version live)
without_version_quiet version [] quiet = tt
without_version_quiet version (w ∷ live) quiet = one (bytes_eq w.version version) (without_version version live) (without_version_quiet version live quiet.1)
  where
    one : (b : Bool) (rest : List WatchState) → AllQuiet rest → AllQuiet (if b then rest else w ∷ rest)
    one true rest h = h
    one false rest h = (quiet.0, h)

module _ {O : Type 0} (d later : Database O) (version : List ℕ) where
  abbrev pub SameElse : WatchState → Type 0
  SameElse w = bytes_eq w.version version ≡ false → SameWatched d later w

  pub silent_else : (live : List WatchState) → Each SameElse live → Each (StaysSilent version (notes_between d later)) live
  silent_else [] same = tt
  silent_else (w ∷ live) same = ((λ off. (nothing_between d later (w ∷ []) (same.0 off, tt)).0), silent_else live same.1)

  same_left : (live : List WatchState) → Each SameElse live → Each (SameWatched d later) (without_version version live)
  same_left [] same = tt
  same_left (w ∷ live) same = one (bytes_eq w.version version) refl (without_version version live) (same_left live same.1)
    where
      one : (b : Bool) → bytes_eq w.version version ≡ b → (rest : List WatchState) → Each (SameWatched d later) rest → Each (SameWatched d later) (if b then rest else w ∷ rest)
      one true is rest h = h
      one false is rest h = (same.0 is, h)

  follow_left : (live : List WatchState) → AllFollow d live → AllFollow d (without_version version live)
  follow_left [] follows = tt
  follow_left (w ∷ live) follows = one (bytes_eq w.version version) (without_version version live) (follow_left live follows.1)
    where
      one : (b : Bool) (rest : List WatchState) → AllFollow d rest → AllFollow d (if b then rest else w ∷ rest)
      one true rest h = h
      one false rest h = (follows.0, h)

  pub quiet_dropped : (s : WatchesState) → Each SameElse s.live → AreQuiet d s → AreQuiet later (record s { live = without_version version s.live })
  quiet_dropped s same quiet =
      quiet_there d later (record s { live = without_version version s.live }) (same_left s.live same)
      (record { fresh = quiet.fresh; quiet = without_version_quiet version s.live quiet.quiet; follow = follow_left s.live quiet.follow })

-- ---- watchers that wait

fresh_more : (ws : List WatcherState) (w : WatcherState) → AllFresh ws → IsFresh w → AllFresh (ws ++ w ∷ [])
fresh_more [] w all fresh = (fresh, tt)
fresh_more (v ∷ ws) w all fresh = (all.0, fresh_more ws w all.1 fresh)

pub quiet_given : {O : Type 0} (d : Database O) (w : WatcherState) (s : WatchesState) → IsFresh w → AreQuiet d s → AreQuiet d (given w s)
quiet_given d w s fresh quiet = record { fresh = fresh_more s.waiting w quiet.fresh fresh; quiet = quiet.quiet; follow = quiet.follow }

-- ---- one watch more

more_quiet : (live : List WatchState) (w : WatchState) → AllQuiet live → AllQuiet (w ∷ []) → AllQuiet (live ++ w ∷ [])
more_quiet [] w all one = one
more_quiet (v ∷ live) w all one = (all.0, more_quiet live w all.1 one)

more_follow : {O : Type 0} (d : Database O) (live : List WatchState) (w : WatchState) → AllFollow d live → Follows d w → AllFollow d (live ++ w ∷ [])
more_follow d [] w all one = (one, tt)
more_follow d (v ∷ live) w all one = (all.0, more_follow d live w all.1 one)

module _ {O : Type 0} (d : Database O) (is : IsOrdered d) (version : List ℕ) (set : ℕ) (named : set_named d.graph.versions version ≡ Some set) where
  tables_here : tables_of d version ≡ tables_in d set
  tables_here = ap (tables_at d) named

  first_fits : Fit (first_note d set).tables [] × Shows (after_changes (first_note d set).tables []) (tables_in d set)
  first_fits = start (tables_in d set) (first_note d set).tables (apart_at d is.edges (Some set)) (is_note _ (tables_in d set) (from_empty (working d.graph.edges set) d.state.tables is.rise))

  pub fits_first : Fit (first_note d set).tables []
  fits_first = first_fits.0

  -- a note that names a table is told
  first_told : (c : TableChange) (cs : List TableChange) (w : WatcherState) → with_told (with_prepared (record { tables = c ∷ cs }) w) ≡ with_first (record { tables = c ∷ cs }) w
  first_told c cs w = sym (ap (λ (b : Bool). if b then w else with_told (with_prepared (record { tables = c ∷ cs }) w)) (ne_eqb (length (c ∷ cs)) 0 (λ same. omega (arith, same))))

  -- what a fresh watcher shows after its first note
  shows_first : (w : WatcherState) (tables : List TableChange) → IsFresh w → Shows (after_changes tables []) (tables_in d set) → (let v : WatcherState = with_first (record { tables = tables }) w in WillShow (tables_in d set) v v.shown)
  shows_first w tables fresh shows = subst (λ (u : WatcherState). (let v : WatcherState = with_first (record { tables = tables }) u in WillShow (tables_in d set) v v.shown)) (sym fresh) (go w.shown tables shows)
    where
      go : (o : Option Named) (tables : List TableChange) → Shows (after_changes tables []) (tables_in d set)
          → (let u : WatcherState = record { prepared = []; told = 0; heard = option_map (λ notes. []) w.heard; shown = option_map (λ shown. []) o } in let v : WatcherState = with_first (record { tables = tables }) u in WillShow (tables_in d set) v v.shown)
      go None [] shows = tt
      go None (c ∷ cs) shows = subst (λ (v : WatcherState). WillShow (tables_in d set) v v.shown) (first_told c cs (record { prepared = []; told = 0; heard = option_map (λ notes. []) w.heard; shown = None })) tt
      go (Some shown) [] shows = shows
      go (Some shown) (c ∷ cs) shows = subst (λ (v : WatcherState). WillShow (tables_in d set) v v.shown) (first_told c cs (record { prepared = []; told = 0; heard = option_map (λ notes. []) w.heard; shown = Some [] })) shows

  quiet_first : (w : WatcherState) (tables : List TableChange) → IsFresh w → (let v : WatcherState = with_first (record { tables = tables }) w in (v.prepared ≡ []) × (v.told ≤ 18446744073709551615))
  quiet_first w [] fresh = (ap (λ (u : WatcherState). u.prepared) fresh, (let none = ap (λ (u : WatcherState). u.told) fresh in omega (arith, none)))
  quiet_first w (c ∷ cs) fresh = subst (λ (v : WatcherState). (v.prepared ≡ []) × (v.told ≤ 18446744073709551615)) (first_told c cs w) (refl, omega arith)

  pub quiet_watched : (s : WatchesState) → AreQuiet d s → AreQuiet d (watched version (first_note d set) s)
  quiet_watched s quiet = go s.waiting quiet.fresh
    where
      go : (ws : List WatcherState) → AllFresh ws → AreQuiet d (taking ws s.last version (first_note d set) s)
      go [] fresh = quiet
      go (w ∷ ws) fresh = record {
        fresh = fresh.1;
        quiet = more_quiet s.live _ quiet.quiet (quiet_first w (first_note d set).tables fresh.0, tt);
        follow = more_follow d s.live _ quiet.follow (record {
          lives = subst IsSome (sym named) refl;
          shows = subst (λ (tables : Named). (let v : WatcherState = with_first (first_note d set) w in WillShow tables v v.shown)) (sym tables_here) (shows_first w (first_note d set).tables fresh.0 first_fits.1);
        });
      }
