-- Watches that are made ready for the notes of runs.
use Rattle.std.proofs.Common.{◌≡◌, ◌++◌, ◌+◌, ◌<◌, ℕ, zero, suc, List, [], ◌∷◌, length, take, drop, get_or, refl, ap, sym, ◌∙◌, subst, add-one, arith}
use Rattle.std.proofs.lemmas.List.{take_more}
use Rattle.std.specs.Prelude.{Option}
use mathlib.Core.Logic.{inl, inr}
use Rattle.version_graph.specs.Edges.{Drawn, set_named}
use Rattle.version_graph.specs.Sets.{In}
use Rattle.version_model.specs.Kept.{Database}
use Rattle.write_plans.specs.declared.undo.Undo.{Undo}
use Rattle.change_feed.specs.declared.note.Note.{Note}
use Rattle.change_feed.specs.declared.note.VersionNote.{VersionNote}
use Rattle.change_feed.specs.Feeds.{events_prepared, events_told}
use Rattle.change_feed.specs.Watches.{AllFresh, AllMayPrepare, WatchState, WatchesState, all_cleared, all_prepared, all_told, note_for}
use Rattle.change_feed.proofs.FeedLaws.{told}
use Rattle.version_notes.specs.Differences.{note_between}
use Rattle.version_notes.specs.Mirrors.{AllFollow, AreQuiet}
use Rattle.version_notes.specs.Notes.{notes_along, notes_between, notes_by}
use Rattle.version_notes.specs.Runs.{IsOrdered, LeadAlong, LeadsTo, MayHearAlong, last_of, run_note, run_notes, runs_notes, versions_of}
use Rattle.version_notes.specs.Versions.{tables_of}
use Rattle.version_notes.proofs.NoteLaws.{apart_at, between_has, lead_ordered, lead_versions, note_listed, run_is}
use Rattle.version_notes.proofs.QuietLaws.{Agree, all_ready, cleared_noted, cleared_same, noted, same_noted, told_follow, told_quiet, versions_stay}

-- ---- one run

module _ {O : Type 0} (old new : Database O) (undo : Undo) (is : IsOrdered old) (lead : LeadsTo old new undo) (g : Drawn O) (graph : old.graph ≡ g) (all : List WatchState) where
  abbrev between : List ℕ → Option Note
  between version = note_between (tables_of old version) (tables_of new version)

  run_has : (version : List ℕ) → In version (versions_of all) → note_for (run_notes g all undo) version ≡ between version
  run_has version i =
      note_listed (run_note g undo) version (versions_of all) i
      ∙ ap (λ (h : Drawn O). run_note h undo version) (sym graph)
      ∙ run_is old new undo is lead version

  agree_run : (live : List WatchState) → ((version : List ℕ) → In version (versions_of live) → In version (versions_of all)) → Agree (run_notes g all undo) between live
  agree_run [] within = tt
  agree_run (w ∷ live) within = (run_has w.version (within w.version (inl refl)), agree_run live (λ version i. within version (inr i)))

agree_between : {O : Type 0} (old new : Database O) (live : List WatchState) → Agree (notes_between old new) (λ version. note_between (tables_of old version) (tables_of new version)) live
agree_between old new [] = tt
agree_between old new (w ∷ live) = (between_has old new w.version, agree_between old new live)

-- ---- runs in a row

pub record Along {O : Type 0} (d : Database O) (es : List (Database O)) (s : WatchesState) (notes : List (List VersionNote)) : Type 0 where
  pub may : MayHearAlong notes s
  pub same : events_prepared notes s ≡ events_prepared (notes_along d es) s
  pub follow : AllFollow (last_of d es) (events_prepared notes s).live

-- WATCHES MAY BE MADE READY for the notes of runs, which are those between the states, and then follow the last
pub run_along : {O : Type 0} (d : Database O) (es : List (Database O)) (us : List Undo) (s : WatchesState) (g : Drawn O) (all : List WatchState) → d.graph ≡ g → versions_of s.live ≡ versions_of all → IsOrdered d → LeadAlong d es us → AllFollow d s.live → Along d es s (runs_notes g all us)
run_along d [] [] s g all graph vs is leads follows = record { may = tt; same = refl; follow = follows }
run_along d [] (u ∷ us) s g all graph vs is leads follows = absurd leads
run_along d (e ∷ es) [] s g all graph vs is leads follows = absurd leads
run_along d (e ∷ es) (u ∷ us) s g all graph vs is leads follows =
    let lead = leads.0 in
    let notes = run_notes g all u in
    let agree = agree_run d e u is lead g graph all s.live (λ version i. subst (In version) vs i) in
    let first = all_ready d e lead.graph (λ version. apart_at d is.edges (set_named d.graph.versions version)) (lead_versions d e u is lead) notes s.live agree follows in
    let rest = run_along e es us (all_prepared notes s) g all (lead.graph ∙ graph) (versions_stay notes s.live ∙ vs) (lead_ordered d e u is lead) leads.1 first.1 in
    let one : noted notes s.live ≡ noted (notes_between d e) s.live = same_noted notes (between d e u is lead g graph all) s.live agree ∙ sym (same_noted (notes_between d e) (between d e u is lead g graph all) s.live (agree_between d e s.live)) in
    record {
      may = (first.0, rest.may);
      same = rest.same ∙ ap (λ (live : List WatchState). events_prepared (notes_along e es) (record s { live = live })) one;
      follow = rest.follow;
    }

-- ---- once they are told, or cleared

waits_still : (notes : List (List VersionNote)) (s : WatchesState) → (events_prepared notes s).waiting ≡ s.waiting
waits_still [] s = refl
waits_still (e ∷ es) s = waits_still es (all_prepared e s)

-- told all of them, they are told one after the other, and are quiet
pub told_along : {O : Type 0} (d : Database O) (es : List (Database O)) (s : WatchesState) (notes : List (List VersionNote)) → AreQuiet d s → Along d es s notes
    → (all_told (events_prepared notes s) ≡ events_told (notes_along d es) s) × AreQuiet (last_of d es) (all_told (events_prepared notes s))
told_along d es s notes quiet along = (
  ap all_told along.same ∙ told (notes_along d es) s quiet.quiet,
  record {
    fresh = subst AllFresh (sym (waits_still notes s)) quiet.fresh;
    quiet = told_quiet (events_prepared notes s).live;
    follow = told_follow (last_of d es) (events_prepared notes s).live along.follow;
  },
)

-- and cleared, they are as before
pub cleared_along : {O : Type 0} (d : Database O) (s : WatchesState) → AreQuiet d s → all_cleared s ≡ s
cleared_along d s quiet = ap (λ (live : List WatchState). record s { live = live }) (cleared_same s.live quiet.quiet)

-- clearing forgets what was made ready
pub cleared_prepared : (notes : List (List VersionNote)) (s : WatchesState) → all_cleared (events_prepared notes s) ≡ all_cleared s
cleared_prepared [] s = refl
cleared_prepared (e ∷ es) s = cleared_prepared es (all_prepared e s) ∙ ap (λ (live : List WatchState). record s { live = live }) (cleared_noted e s.live)

-- ---- one event more

pub prepared_more : (es : List (List VersionNote)) (e : List VersionNote) (s : WatchesState) → events_prepared (es ++ e ∷ []) s ≡ all_prepared e (events_prepared es s)
prepared_more [] e s = refl
prepared_more (n ∷ es) e s = prepared_more es e (all_prepared n s)

pub versions_along : (notes : List (List VersionNote)) (s : WatchesState) → versions_of (events_prepared notes s).live ≡ versions_of s.live
versions_along [] s = refl
versions_along (e ∷ es) s = versions_along es (all_prepared e s) ∙ versions_stay e s.live

-- the watches are those of before, but for what they are ready for
same_versions : {O : Type 0} (g : Drawn O) (old now : WatchesState) (runs : List Undo) (undo : Undo) → now ≡ events_prepared (runs_notes g old.live runs) old → run_notes g now.live undo ≡ run_notes g old.live undo
same_versions g old now runs undo is = ap (λ (vs : List (List ℕ)). notes_by (run_note g undo) vs) (ap (λ (s : WatchesState). versions_of s.live) is ∙ versions_along (runs_notes g old.live runs) old)

-- ---- the next of some runs

drop_next : (us : List Undo) (i : ℕ) (d : Undo) → i < length us → drop i us ≡ get_or us i d ∷ drop (suc i) us
drop_next [] i d h = absurd (omega arith)
drop_next (u ∷ us) zero d h = refl
drop_next (u ∷ us) (suc i) d h = drop_next us i d (omega arith)

module _ {O : Type 0} (g : Drawn O) (old now : WatchesState) where
  -- it may be told
  first_may : (us : List Undo) (i : ℕ) (d : Undo) → i < length us → MayHearAlong (runs_notes g old.live (drop i us)) now
      → AllMayPrepare (run_notes g old.live (get_or us i d)) now.live × MayHearAlong (runs_notes g old.live (drop (i + 1) us)) (all_prepared (run_notes g old.live (get_or us i d)) now)
  first_may us i d within may = subst (λ (l : List Undo). MayHearAlong (runs_notes g old.live l) now) (drop_next us i d within ∙ ap (λ (n : ℕ). get_or us i d ∷ drop n us) (sym (add-one i))) may

pub next_may : {O : Type 0} (g : Drawn O) (old now : WatchesState) (us : List Undo) (i : ℕ) (u : Undo) → u ≡ get_or us i u → i < length us → now ≡ events_prepared (runs_notes g old.live (take i us)) old → MayHearAlong (runs_notes g old.live (drop i us)) now
    → AllMayPrepare (run_notes g now.live u) now.live
next_may g old now us i u at within ready may =
    let it = subst (λ (ns : List VersionNote). AllMayPrepare ns now.live) (sym (same_versions g old now (take i us) (get_or us i u) ready)) (first_may g old now us i u within may).0 in
    subst (λ (v : Undo). AllMayPrepare (run_notes g now.live v) now.live) (sym at) it

pub rest_may : {O : Type 0} (g : Drawn O) (old now new : WatchesState) (us : List Undo) (i : ℕ) (d : Undo) → d ≡ get_or us i d → i < length us → now ≡ events_prepared (runs_notes g old.live (take i us)) old → MayHearAlong (runs_notes g old.live (drop i us)) now
    → new ≡ all_prepared (run_notes g now.live d) now → MayHearAlong (runs_notes g old.live (drop (i + 1) us)) new
rest_may g old now new us i d at within ready may is =
    let same : new ≡ all_prepared (run_notes g old.live (get_or us i d)) now = is ∙ ap (λ (v : Undo). all_prepared (run_notes g now.live v) now) at ∙ ap (λ (ns : List VersionNote). all_prepared ns now) (same_versions g old now (take i us) (get_or us i d) ready) in
    subst (λ (s : WatchesState). MayHearAlong (runs_notes g old.live (drop (i + 1) us)) s) (sym same) (first_may g old now us i d within may).1

more_runs : {O : Type 0} (g : Drawn O) (live : List WatchState) (us : List Undo) (u : Undo) → runs_notes g live (us ++ u ∷ []) ≡ runs_notes g live us ++ run_notes g live u ∷ []
more_runs g live [] u = refl
more_runs g live (v ∷ us) u = ap (λ (l : List (List VersionNote)). run_notes g live v ∷ l) (more_runs g live us u)

pub next_ready : {O : Type 0} (g : Drawn O) (old now new : WatchesState) (us : List Undo) (i : ℕ) (d : Undo) → d ≡ get_or us i d → i < length us → now ≡ events_prepared (runs_notes g old.live (take i us)) old
    → new ≡ all_prepared (run_notes g now.live d) now → new ≡ events_prepared (runs_notes g old.live (take (i + 1) us)) old
next_ready g old now new us i d at within ready is =
    is ∙ ap (λ (v : Undo). all_prepared (run_notes g now.live v) now) at ∙ ap (λ (ns : List VersionNote). all_prepared ns now) (same_versions g old now (take i us) (get_or us i d) ready)
    ∙ ap (all_prepared (run_notes g old.live (get_or us i d))) ready
    ∙ sym (prepared_more (runs_notes g old.live (take i us)) (run_notes g old.live (get_or us i d)) old)
    ∙ ap (λ (l : List (List VersionNote)). events_prepared l old) (sym (more_runs g old.live (take i us) (get_or us i d)))
    ∙ ap (λ (l : List Undo). events_prepared (runs_notes g old.live l) old) (sym (take_more us i d within))
