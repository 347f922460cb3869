-- What live watches show, and that it stays so.
use Rattle.std.specs.Prelude.{Option, Some, None, IsSome}
use Rattle.std.specs.Option.{option_map}
use Rattle.std.proofs.Common.{◌≡◌, ◌++◌, ℕ, List, [], ◌∷◌, map, refl, ap, sym, subst, arith}
use Rattle.version_graph.specs.Edges.{Drawn, set_named}
use Rattle.version_graph.specs.Sets.{Each}
use Rattle.version_model.specs.Kept.{Database}
use Rattle.change_feed.specs.declared.note.Note.{Note}
use Rattle.change_feed.specs.declared.note.TableChange.{TableChange}
use Rattle.change_feed.specs.declared.note.VersionNote.{VersionNote}
use Rattle.change_feed.specs.Feeds.{AllQuiet}
use Rattle.change_feed.specs.Shown.{Fit, Named, after_changes, after_notes}
use Rattle.change_feed.specs.Watchers.{WatcherState, with_cleared, with_told}
use Rattle.change_feed.specs.Watches.{AllMayPrepare, MayHear, WatchState, note_for, with_note}
use Rattle.feed_mirror.specs.Laws.{Shows}
use Rattle.feed_mirror.specs.Notes.{AreApart}
use Rattle.feed_mirror.proofs.MirrorLaws.{follow}
use Rattle.version_notes.specs.Versions.{tables_of}
use Rattle.version_notes.specs.Differences.{changes_between, note_between, note_of}
use Rattle.version_notes.specs.Mirrors.{AllFollow, WillShow}
use Rattle.version_notes.proofs.NoteLaws.{AreVersions, is_note}

-- ---- one watch

after_more : (ns : List Note) (n : Note) (shown : Named) → after_notes (ns ++ n ∷ []) shown ≡ after_changes n.tables (after_notes ns shown)
after_more [] n shown = refl
after_more (m ∷ ns) n shown = after_more ns n (after_changes m.tables shown)

-- it may be made ready for a note, and then follows the version's new tables
abbrev Ready : Named → Option Note → WatcherState → Type 0
Ready now o w = MayHear o w × WillShow now (with_note o w) (with_note o w).shown

-- what shows the tables before may be told the changes, and then shows those of now
abbrev Makes : Named → Named → List TableChange → Type 0
Makes now shown cs = Fit cs shown × Shows (after_changes cs shown) now

ready_at : (now : Named) (cs : List TableChange) (w : WatcherState) (o : Option Named) → w.shown ≡ o → ((shown : Named) → o ≡ Some shown → Makes now (after_notes w.prepared shown) cs) → Ready now (note_of cs) (record w { shown = o })
ready_at now [] w None e makes = (tt, tt)
ready_at now (c ∷ cs) w None e makes = (tt, tt)
ready_at now [] w (Some shown) e makes = (tt, (makes shown refl).1)
ready_at now (c ∷ cs) w (Some shown) e makes =
    let it = makes shown refl in
    (it.0, subst (λ (s : Named). Shows s now) (sym (after_more w.prepared (record { tables = c ∷ cs }) shown)) it.1)

made : (before now : Named) (w : WatcherState) (o : Option Named) → AreApart before → AreVersions before now → WillShow before w o → (shown : Named) → o ≡ Some shown → Makes now (after_notes w.prepared shown) (changes_between before now)
made before now w None apart versions will shown e = absurd (let no : ⊥ = cc in no)
made before now w (Some here) apart versions will shown e =
    let same : here ≡ shown = cc in
    follow (after_notes w.prepared shown) before now (changes_between before now) apart (subst (λ (s : Named). Shows (after_notes w.prepared s) before) same will) (is_note before now versions)

pub ready : (before now : Named) (w : WatcherState) → AreApart before → AreVersions before now → WillShow before w w.shown → Ready now (note_between before now) w
ready before now w apart versions will = ready_at now (changes_between before now) w w.shown refl (made before now w w.shown apart versions will)

-- ---- all watches

-- each with its note
abbrev pub noted : List VersionNote → List WatchState → List WatchState
noted notes live = map {A = WatchState} (λ w. record w { watcher = with_note (note_for notes w.version) w.watcher }) live

abbrev pub Agree : List VersionNote → (List ℕ → Option Note) → List WatchState → Type 0
Agree notes note live = Each (λ (w : WatchState). note_for notes w.version ≡ note w.version) live

pub same_noted : (notes : List VersionNote) (note : List ℕ → Option Note) (live : List WatchState) → Agree notes note live → noted notes live ≡ map {A = WatchState} (λ w. record w { watcher = with_note (note w.version) w.watcher }) live
same_noted notes note [] agree = refl
same_noted notes note (w ∷ live) agree = λ i. record w { watcher = with_note (agree.0 i) w.watcher } ∷ same_noted notes note live agree.1 i

pub versions_stay : (notes : List VersionNote) (live : List WatchState) → map {A = WatchState} {B = List ℕ} (λ w. w.version) (noted notes live) ≡ map {A = WatchState} {B = List ℕ} (λ w. w.version) live
versions_stay notes [] = refl
versions_stay notes (w ∷ live) = ap (λ (vs : List (List ℕ)). w.version ∷ vs) (versions_stay notes live)

module _ {O : Type 0} (old new : Database O) (graph : new.graph ≡ old.graph) (apart : (version : List ℕ) → AreApart (tables_of old version)) (versions : (version : List ℕ) → AreVersions (tables_of old version) (tables_of new version)) where
  abbrev between : List ℕ → Option Note
  between version = note_between (tables_of old version) (tables_of new version)

  lives_still : (version : List ℕ) → IsSome (set_named old.graph.versions version) → IsSome (set_named new.graph.versions version)
  lives_still version lives = subst (λ (g : Drawn O). IsSome (set_named g.versions version)) (sym graph) lives

  pub all_ready : (notes : List VersionNote) (live : List WatchState) → Agree notes between live → AllFollow old live → AllMayPrepare notes live × AllFollow new (noted notes live)
  all_ready notes [] agree follows = (tt, tt)
  all_ready notes (w ∷ live) agree follows =
      let it = ready (tables_of old w.version) (tables_of new w.version) w.watcher (apart w.version) (versions w.version) follows.0.shows in
      let rest = all_ready notes live agree.1 follows.1 in
      let now : Option Note → Type 0 = λ o. Ready (tables_of new w.version) o w.watcher in
      let own = subst now (sym agree.0) it in
      ((own.0, rest.0), (record { lives = lives_still w.version follows.0.lives; shows = own.1 }, rest.1))

-- ---- told or cleared

pub told_follow : {O : Type 0} (d : Database O) (live : List WatchState) → AllFollow d live → AllFollow d (map {A = WatchState} (λ w. record w { watcher = with_told w.watcher }) live)
told_follow d [] follows = tt
told_follow d (w ∷ live) follows = (record { lives = follows.0.lives; shows = go w.watcher.shown follows.0.shows }, told_follow d live follows.1)
  where
    go : (o : Option Named) → WillShow (tables_of d w.version) w.watcher o → WillShow (tables_of d w.version) (with_told w.watcher) (option_map (after_notes w.watcher.prepared) o)
    go None will = tt
    go (Some shown) will = will

pub told_quiet : (live : List WatchState) → AllQuiet (map {A = WatchState} (λ w. record w { watcher = with_told w.watcher }) live)
told_quiet [] = tt
told_quiet (w ∷ live) = ((refl, omega arith), told_quiet live)

pub cleared_same : (live : List WatchState) → AllQuiet live → map {A = WatchState} (λ w. record w { watcher = with_cleared w.watcher }) live ≡ live
cleared_same [] quiet = refl
cleared_same (w ∷ live) quiet = λ i. record w { watcher = record w.watcher { prepared = sym quiet.0.0 i } } ∷ cleared_same live quiet.1 i

-- clearing forgets what was made ready
pub cleared_noted : (notes : List VersionNote) (live : List WatchState) → map {A = WatchState} (λ w. record w { watcher = with_cleared w.watcher }) (noted notes live) ≡ map {A = WatchState} (λ w. record w { watcher = with_cleared w.watcher }) live
cleared_noted notes [] = refl
cleared_noted notes (w ∷ live) = λ i. record w { watcher = forgets (note_for notes w.version) w.watcher i } ∷ cleared_noted notes live i
  where
    forgets : (o : Option Note) (w : WatcherState) → with_cleared (with_note o w) ≡ with_cleared w
    forgets None w = refl
    forgets (Some note) w = refl
