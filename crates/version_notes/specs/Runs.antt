-- The notes of a run of a write, from what it carried.
use Rattle.std.specs.Prelude.{◌≡◌, ℕ, List, [], ◌∷◌, filter, filter_map, map, Option, Some, None, if◌then◌else◌}
use Rattle.std.specs.Option.{option_map_or}
use Rattle.row_store.specs.Rows.{RiseFrom}
use Rattle.row_store.specs.declared.change.Change.{Change}
use Rattle.version_graph.specs.Tables.{table_numbers}
use Rattle.version_graph.specs.Edges.{AreEdges, Drawn, heading_of, is_in, set_named, working}
use Rattle.version_graph.specs.declared.parts.Heading.{Heading}
use Rattle.version_graph.specs.declared.parts.Placed.{Placed}
use Rattle.version_model.specs.Kept.{Database}
use Rattle.changes_walk.specs.Changing.{latest_changes}
use Rattle.write_plans.specs.Told.{CarriedLead, TellsApart, is_change}
use Rattle.write_plans.specs.declared.undo.Undo.{Undo}
use Rattle.change_feed.specs.declared.note.Note.{Note}
use Rattle.change_feed.specs.declared.note.TableChange.{TableChange}
use Rattle.change_feed.specs.declared.note.VersionNote.{VersionNote}
use Rattle.change_feed.specs.Watches.{AllMayPrepare, WatchState, WatchesState, all_prepared}
use Rattle.version_notes.specs.Differences.{note_of, table_with}
use Rattle.version_notes.specs.Notes.{notes_by}

-- ---- where a run leads

-- a run led from one state of the data to the other: what takes it back tells the tables that got other rows, and by which changes
pub record LeadsTo {O : Type 0} (old new : Database O) (undo : Undo) : Type 0 where
  pub graph : new.graph ≡ old.graph
  pub changed : (t : ℕ) → TellsApart (old.state.tables t) (new.state.tables t) (is_in t undo.changed)
  pub carried : CarriedLead old.state.tables new.state.tables undo.changed undo.carried

-- runs one after the other, where these are the states after them
abbrev pub LeadAlong : {O : Type 0} → Database O → List (Database O) → List Undo → Type 0
LeadAlong d [] [] = Unit {0}
LeadAlong d (e ∷ es) (u ∷ us) = LeadsTo d e u × LeadAlong e es us
LeadAlong d [] (u ∷ us) = ⊥
LeadAlong d (e ∷ es) [] = ⊥

-- the state behind them
abbrev pub last_of : {O : Type 0} → Database O → List (Database O) → Database O
last_of d [] = d
last_of d (e ∷ es) = last_of e es

-- its edges fit, and each table rises
pub record IsOrdered {O : Type 0} (d : Database O) : Type 0 where
  pub edges : AreEdges d.graph.edges
  pub rise : (t : ℕ) → RiseFrom 0 (d.state.tables t)

-- ---- what is told of it

-- what was carried to a table that got other rows, without what leaves its row; nothing to any other
abbrev pub carried_to : Undo → ℕ → List Change
carried_to undo t = if is_in t undo.changed then filter is_change (latest_changes undo.carried t) else []

abbrev pub change_of : Option Heading → List Change → Option TableChange
change_of None changes = None
change_of (Some heading) changes = table_with heading.name changes

-- a live table with its changes, where it has any
abbrev pub changed_table : {O : Type 0} → List (Placed O) → Undo → ℕ → Option TableChange
changed_table es undo t = change_of (heading_of es t) (carried_to undo t)

-- the tables of a version
abbrev pub numbers_of : {O : Type 0} → Drawn O → List ℕ → List ℕ
numbers_of g version = option_map_or (λ (set : ℕ). table_numbers (working g.edges set)) (set_named g.versions version) []

-- the note of a run for a version
abbrev pub run_note : {O : Type 0} → Drawn O → Undo → List ℕ → Option Note
run_note g undo version = note_of (filter_map (changed_table g.edges undo) (numbers_of g version))

abbrev pub versions_of : List WatchState → List (List ℕ)
versions_of live = map {A = WatchState} {B = List ℕ} (λ w. w.version) live

-- the notes of a run for the versions that are watched
abbrev pub run_notes : {O : Type 0} → Drawn O → List WatchState → Undo → List VersionNote
run_notes g live undo = notes_by (run_note g undo) (versions_of live)

-- the notes of runs, one after the other
abbrev pub runs_notes : {O : Type 0} → Drawn O → List WatchState → List Undo → List (List VersionNote)
runs_notes g live runs = map {A = Undo} {B = List VersionNote} (run_notes g live) runs

-- watches may be made ready for notes, for each after those before it
abbrev pub MayHearAlong : List (List VersionNote) → WatchesState → Type 0
MayHearAlong [] s = Unit {0}
MayHearAlong (e ∷ es) s = AllMayPrepare e s.live × MayHearAlong es (all_prepared e s)
