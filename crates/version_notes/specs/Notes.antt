-- The notes of writes.
use Rattle.std.specs.Prelude.{ℕ, List, [], ◌∷◌, filter_map, Option}
use Rattle.std.specs.Option.{option_map}
use Rattle.change_feed.specs.declared.note.Note.{Note}
use Rattle.change_feed.specs.declared.note.VersionNote.{VersionNote}
use Rattle.version_graph.specs.Edges.{version_names}
use Rattle.version_model.specs.Kept.{Database}
use Rattle.feed_mirror.specs.Notes.{emptied}
use Rattle.version_notes.specs.Differences.{changes_between, note_between}
use Rattle.version_notes.specs.Versions.{tables_in, tables_of}

-- the note of each of these versions that has one
abbrev pub notes_by : (List ℕ → Option Note) → List (List ℕ) → List VersionNote
notes_by note versions = filter_map (λ (version : List ℕ). option_map (λ (n : Note). record { version = version; note = n }) (note version)) versions

-- THE NOTES OF A WRITE from one state of the data to the other: of each version whose rows changed
abbrev pub notes_between : {O : Type 0} → Database O → Database O → List VersionNote
notes_between old new = notes_by (λ version. note_between (tables_of old version) (tables_of new version)) (version_names old.graph.versions)

-- of writes one after the other, where these are the states after them
abbrev pub notes_along : {O : Type 0} → Database O → List (Database O) → List (List VersionNote)
notes_along d [] = []
notes_along d (e ∷ es) = notes_between d e ∷ notes_along e es

-- THE FIRST NOTE of a version: all its rows as added
abbrev pub first_note : {O : Type 0} → Database O → ℕ → Note
first_note d set = record { tables = changes_between (emptied (tables_in d set)) (tables_in d set) }
