-- The changes that statements tell.
use Rattle.std.specs.Prelude.{ℕ, List, map, Option, Some, None, if◌then◌else◌}
use Rattle.std.specs.List.{filter}
use Rattle.par_base.specs.declared.value.Value.{Value}
use Rattle.expr_lang.specs.Terms.{Term}
use Rattle.row_store.specs.declared.change.Change.{Change}
use Rattle.row_store.specs.Rows.{Rows}
use Rattle.ordinary_table.specs.Shown.{meets}
use Rattle.ordinary_table.specs.Written.{SetTerm, numbered, set_row}

-- what is to stand in place of a row
abbrev pub Renewal : Type 0
Renewal = ℕ × List Value → Option (List Value)

-- an UPDATE puts the row after the SETs
abbrev pub set_to : List SetTerm → Renewal
set_to sets r = Some (set_row sets r)

-- a DELETE puts nothing
abbrev pub gone : Renewal
gone r = None

-- the change of a row of the table
abbrev pub change_to : Renewal → ℕ × List Value → Change
change_to now r = record { id = r.0; old = Some r.1; new = now r }

-- it is told where the row meets the condition
abbrev pub chosen_change : Option (Term ℕ) → Renewal → ℕ × List Value → Option Change
chosen_change condition now r = if meets condition r then Some (change_to now r) else None

-- so there is one for each row that is chosen
abbrev pub chosen_changes : Option (Term ℕ) → Renewal → Rows → List Change
chosen_changes condition now rows = map (change_to now) (filter (meets condition) rows)

-- the change that adds a row
abbrev pub added : ℕ × List Value → Change
added r = record { id = r.0; old = None; new = Some r.1 }

-- an INSERT adds each of its rows
abbrev pub added_changes : ℕ → List (List Value) → List Change
added_changes next new = map added (numbered next new)
