-- The changes of some identifiers.
use Rattle.std.specs.Prelude.{◌≡◌, ◌⊎◌, ℕ, List, [], ◌∷◌, Option}
use Rattle.par_base.specs.declared.value.Value.{Value}
use Rattle.row_store.specs.declared.change.Change.{Change}
use Rattle.row_store.specs.Rows.{row_of}
use Rattle.op_law.specs.Tables.{Tables}
use Rattle.row_changes.specs.Changed.{TableChanges}

-- what an identifier has
abbrev pub Lookup : Type 0
Lookup = ℕ → Option (List Value)

-- the change of an identifier
abbrev pub change_between : Lookup → Lookup → ℕ → Change
change_between f g id = record { id = id; old = f id; new = g id }

-- the changes of those of the identifiers at which both differ, in order
abbrev pub Picks : Lookup → Lookup → List ℕ → List Change → Type 0
Picks f g [] changes = changes ≡ []
Picks f g (id ∷ ids) changes =
    ((f id ≡ g id) × Picks f g ids changes) ⊎ ((f id ≡ g id → ⊥) × ((rest : List Change) × (changes ≡ change_between f g id ∷ rest) × Picks f g ids rest))

-- those of each table
abbrev pub PicksEach : List ℕ → Tables → Tables → TableChanges → Type 0
PicksEach ids [] [] [] = Unit {0}
PicksEach ids (t ∷ ts) (u ∷ us) (c ∷ cs) = Picks (row_of t) (row_of u) ids c × PicksEach ids ts us cs
PicksEach ids [] [] (c ∷ cs) = ⊥
PicksEach ids [] (u ∷ us) cs = ⊥
PicksEach ids (t ∷ ts) [] cs = ⊥
PicksEach ids (t ∷ ts) (u ∷ us) [] = ⊥
