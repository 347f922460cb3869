-- What inner calls suppose and answer.
use Rattle.std.specs.Prelude.{◌≡◌, ℕ, ◌<◌, ◌≤◌, ◌==◌, List, [], ◌∷◌, length, Bool, true, false, Option, Some, None}
use Rattle.par_base.specs.declared.value.Value.{Value}
use Rattle.expr_lang.specs.Terms.{Term}
use Rattle.expr_lang.specs.Val.{fits_row}
use Rattle.op_rows.specs.Cells.{Cells}

-- a row has a value at the place
abbrev pub HasPlace : ℕ → Option (List Value) → Type 0
HasPlace place None = Unit {0}
HasPlace place (Some row) = place < length row

-- a value may be put into a row at the place
abbrev pub TakesPlace : ℕ → Option (List Value) → Type 0
TakesPlace place None = Unit {0}
TakesPlace place (Some row) = place ≤ length row

-- what one table with so many columns may have
abbrev pub is_one_cell : ℕ → Cells → Bool
is_one_cell width (Some row ∷ []) = length row == width
is_one_cell width (None ∷ []) = true
is_one_cell width _ = false

-- one value beside a row, and nothing beside none
abbrev pub is_beside : Option (List Value) → Cells → Bool
is_beside (Some row) (Some (value ∷ []) ∷ []) = true
is_beside None (None ∷ []) = true
is_beside _ _ = false

-- the expression fits a row, and the column may be put in
abbrev pub MayAdd : ℕ → Term ℕ → Option (List Value) → Type 0
MayAdd place e None = Unit {0}
MayAdd place e (Some row) = (place ≤ length row) × (fits_row e (length row) ≡ true)

-- the expression fits a row
abbrev pub MayFollow : Term ℕ → Option (List Value) → Type 0
MayFollow e None = Unit {0}
MayFollow e (Some row) = fits_row e (length row) ≡ true
