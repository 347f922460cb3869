-- Where no row changed nothing is told.
use Rattle.std.specs.List.{cons_option}
use Rattle.std.specs.Option.{option_map}
use Rattle.std.specs.Prelude.{Option, Some, None, filter, map, not}
use Rattle.std.proofs.Common.{◌≡◌, ℕ, List, [], ◌∷◌, Bool, true, false, cond, refl, ap, ◌∙◌}
use Rattle.par_base.specs.declared.value.Value.{Value}
use Rattle.par_base.specs.inner.SameLaws.{row_same}
use Rattle.row_store.specs.Rows.{row_of}
use Rattle.row_store.specs.declared.change.Change.{Change}
use Rattle.op_law.specs.Identifiers.{ids_over}
use Rattle.row_changes.specs.Picked.{Lookup, change_between}
use Rattle.version_graph.specs.Edges.{version_names}
use Rattle.engine_feeds.specs.Told.{is_change, same_cell}
use Rattle.change_feed.specs.declared.note.Note.{Note}
use Rattle.change_feed.specs.declared.note.VersionNote.{VersionNote}
use Rattle.change_feed.specs.Shown.{Named}
use Rattle.engine_feeds.specs.Differences.{changes_between, note_between, note_of, table_with}
use Rattle.engine_feeds.specs.VersionNotes.{notes_between, notes_by}
use Rattle.engine_feeds.specs.Versions.{tables_of}
use Rattle.engine_feeds.specs.AnyDatabase.{AnyDatabase}

cell_same : (c : Option (List Value)) → same_cell c c ≡ true
cell_same None = refl
cell_same (Some row) = row_same row

-- a change to the same row is none
unchanged : (f : Lookup) (id : ℕ) → is_change (change_between f f id) ≡ false
unchanged f id = ap not (cell_same (f id))

none_change : (f : Lookup) (ids : List ℕ) → filter is_change (map (change_between f f) ids) ≡ []
none_change f [] = refl
none_change f (id ∷ ids) =
    let rest = filter is_change (map (change_between f f) ids) in
    ap (λ (b : Bool). cond b (change_between f f id ∷ rest) rest) (unchanged f id) ∙ none_change f ids

nothing_changed : (tables : Named) → changes_between tables tables ≡ []
nothing_changed [] = refl
nothing_changed (t ∷ ts) =
    ap (λ (cs : List Change). cons_option (table_with t.0 cs) (changes_between ts ts)) (none_change (row_of t.1) (ids_over (t.1 ∷ t.1 ∷ []) [])) ∙ nothing_changed ts

no_note : (tables : Named) → note_between tables tables ≡ None
no_note tables = ap note_of (nothing_changed tables)

none_noted : (d : AnyDatabase) (versions : List (List ℕ)) → notes_by (λ version. note_between (tables_of d version) (tables_of d version)) versions ≡ []
none_noted d [] = refl
none_noted d (v ∷ vs) =
    let rest = notes_by (λ (version : List ℕ). note_between (tables_of d version) (tables_of d version)) vs in
    ap (λ (o : Option Note). cons_option (option_map {T = Note} {U = VersionNote} (λ n. record { version = v; note = n }) o) rest) (no_note (tables_of d v)) ∙ none_noted d vs

-- between a state of the data and itself there are no notes
pub nothing_noted : (d : AnyDatabase) → notes_between d d ≡ []
nothing_noted d = none_noted d (version_names d.graph.versions)
