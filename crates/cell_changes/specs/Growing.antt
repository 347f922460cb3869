-- The changes of some tables, identifier by identifier.
use Rattle.std.specs.Prelude.{◌≡◌, ◌⊎◌, ℕ, zero, suc, List, [], ◌∷◌, ◌++◌, Option}
use Rattle.par_base.specs.declared.value.Value.{Value}
use Rattle.row_store.specs.declared.change.Change.{Change}
use Rattle.row_store.specs.Changes.{IsAbove}
use Rattle.op_rows.specs.Cells.{Cells, first_cell, other_cells}
use Rattle.row_changes.specs.Changed.{TableChanges}
use Rattle.row_changes.specs.Picked.{Picks}

-- no changes of so many tables
abbrev pub no_changes : ℕ → TableChanges
no_changes zero = []
no_changes (suc k) = [] ∷ no_changes k

-- the identifier is above those of all changes
abbrev pub AllAbove : TableChanges → ℕ → Type 0
AllAbove [] id = Unit {0}
AllAbove (c ∷ cs) id = IsAbove c id × AllAbove cs id

-- the change of one identifier more, where its row becomes another
abbrev pub AddsCell : ℕ → Option (List Value) → Option (List Value) → List Change → List Change → Type 0
AddsCell id old new before now = ((old ≡ new) × (now ≡ before)) ⊎ ((old ≡ new → ⊥) × (now ≡ before ++ record { id = id; old = old; new = new } ∷ []))

-- in each table
abbrev pub AddsCells : ℕ → Cells → Cells → TableChanges → TableChanges → Type 0
AddsCells id old new [] [] = Unit {0}
AddsCells id old new (c ∷ cs) (d ∷ ds) = AddsCell id (first_cell old) (first_cell new) c d × AddsCells id (other_cells old) (other_cells new) cs ds
AddsCells id old new [] (d ∷ ds) = ⊥
AddsCells id old new (c ∷ cs) [] = ⊥

-- of each table, the changes of those of the identifiers at which both differ, in order
abbrev pub PicksCells : (ℕ → Cells) → (ℕ → Cells) → List ℕ → TableChanges → Type 0
PicksCells f g ids [] = Unit {0}
PicksCells f g ids (c ∷ cs) = Picks (λ id. first_cell (f id)) (λ id. first_cell (g id)) ids c × PicksCells (λ id. other_cells (f id)) (λ id. other_cells (g id)) ids cs
