-- The difference of two tables, and of the tables of a version.
use Rattle.std.specs.Prelude.{ℕ, List, [], ◌∷◌, filter, map, Option, Some, None}
use Rattle.std.specs.List.{cons_option}
use Rattle.row_store.specs.Rows.{Rows, row_of}
use Rattle.row_store.specs.declared.change.Change.{Change}
use Rattle.op_law.specs.Identifiers.{ids_over}
use Rattle.row_changes.specs.Picked.{change_between}
use Rattle.write_plans.specs.Told.{is_change}
use Rattle.change_feed.specs.declared.note.TableChange.{TableChange}
use Rattle.change_feed.specs.declared.note.Note.{Note}
use Rattle.change_feed.specs.Shown.{Named}

-- THE DIFFERENCE OF TWO TABLES: of each identifier at which they differ, ascending, what it had and what it has
abbrev pub difference : Rows → Rows → List Change
difference before now = filter is_change (map (change_between (row_of before) (row_of now)) (ids_over (before ∷ now ∷ []) []))

-- a table with its changes, where it has any
abbrev pub table_with : List ℕ → List Change → Option TableChange
table_with name [] = None
table_with name (c ∷ cs) = Some (record { table = name; changes = c ∷ cs })

-- of the tables of a version before and now each whose rows changed, in the version's order
abbrev pub changes_between : Named → Named → List TableChange
changes_between [] now = []
changes_between (t ∷ ts) [] = []
changes_between (t ∷ ts) (u ∷ us) = cons_option (table_with t.0 (difference t.1 u.1)) (changes_between ts us)

-- the note of these changes: none where there are none
abbrev pub note_of : List TableChange → Option Note
note_of [] = None
note_of (c ∷ cs) = Some (record { tables = c ∷ cs })

-- THE NOTE for a version whose tables were these before and are these now
abbrev pub note_between : Named → Named → Option Note
note_between before now = note_of (changes_between before now)
