-- Tables after changes.
use Rattle.std.specs.Prelude.{ℕ, ◌==◌, nat_lt, List, [], ◌∷◌, if◌then◌else◌, Option}
use Rattle.par_base.specs.declared.value.Value.{Value}
use Rattle.row_store.specs.declared.change.Change.{Change}
use Rattle.row_store.specs.Rows.{Rows}
use Rattle.row_store.specs.Changes.{ChangesRise, AreOld}
use Rattle.op_law.specs.Tables.{Tables}
use Rattle.op_rows.specs.Cells.{with_row}

-- the rows with this one at the identifier, or with none there
abbrev pub put_row : ℕ → Option (List Value) → Rows → Rows
put_row id new [] = with_row id new []
put_row id new (r ∷ rs) = if nat_lt r.0 id then r ∷ put_row id new rs else if r.0 == id then with_row id new rs else with_row id new (r ∷ rs)

-- THE TABLE AFTER CHANGES: each new row is at its identifier
abbrev pub changed : Rows → List Change → Rows
changed rows [] = rows
changed rows (c ∷ cs) = put_row c.id c.new (changed rows cs)

-- changes to the tables of a side, in their order
abbrev pub TableChanges : Type 0
TableChanges = List (List Change)

-- each table after its changes; one that has none stays
abbrev pub changed_tables : Tables → TableChanges → Tables
changed_tables [] changes = []
changed_tables (t ∷ ts) [] = t ∷ ts
changed_tables (t ∷ ts) (c ∷ cs) = changed t c ∷ changed_tables ts cs

-- changes to each of the tables, with the old row of each
abbrev pub AreChangesOf : Tables → TableChanges → Type 0
AreChangesOf [] [] = Unit {0}
AreChangesOf (t ∷ ts) (c ∷ cs) = (ChangesRise 0 c × AreOld t c) × AreChangesOf ts cs
AreChangesOf [] (c ∷ cs) = ⊥
AreChangesOf (t ∷ ts) [] = ⊥
