-- What changes tell, one by one.
use Rattle.std.specs.Prelude.{◌≡◌, ℕ, zero, suc, ◌==◌, Bool, true, false, cond, List, [], ◌∷◌, Option, Some}
use Rattle.par_base.specs.declared.value.Value.{Value}
use Rattle.row_store.specs.declared.change.Change.{Change}
use Rattle.row_changes.specs.Changed.{TableChanges}

-- each of the changes is so
abbrev pub AllOf : (Change → Type 0) → List Change → Type 0
AllOf P [] = Unit {0}
AllOf P (c ∷ cs) = P c × AllOf P cs

-- whether a change names the identifier
abbrev pub is_changed : List Change → ℕ → Bool
is_changed [] q = false
is_changed (c ∷ cs) q = cond (c.id == q) true (is_changed cs q)

-- the changes of a table, by its place: none where there is none
abbrev pub changes_at : TableChanges → ℕ → List Change
changes_at [] which = []
changes_at (c ∷ cs) zero = c
changes_at (c ∷ cs) (suc which) = changes_at cs which

-- the row, where there is one, is so
abbrev pub OfRow : (List Value → Type 0) → Option (List Value) → Type 0
OfRow P o = (row : List Value) → o ≡ Some row → P row

-- the new row of the change, where there is one, is so
abbrev pub OfNew : (List Value → Type 0) → Change → Type 0
OfNew P c = OfRow P c.new
