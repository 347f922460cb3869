-- What one table has at one identifier, and ways to take a case apart.
use Rattle.std.specs.Prelude.{◌≡◌, ℕ, List, Bool, true, false, Option, Some, None, refl}
use Rattle.par_base.specs.declared.value.Value.{Value}
pub use Rattle.op_law.proofs.OnlyLaws.{by_test}

-- what one table has at the identifier
abbrev pub Cell : Type 0
Cell = Option (List Value)

-- the table has the identifier
abbrev pub is_there : Cell → Bool
is_there None = false
is_there (Some row) = true

-- this row, or else the other
abbrev pub or_else : Cell → Cell → Cell
or_else (Some row) other = Some row
or_else None other = other

-- what is there where so, else nothing
abbrev pub kept_if : Bool → Cell → Cell
kept_if true cell = cell
kept_if false cell = None

-- the row that is there, or else this one
abbrev pub row_or : List Value → Cell → List Value
row_or out None = out
row_or out (Some row) = row

-- what f makes of the row, where there is one
abbrev pub map_cell : (List Value → List Value) → Cell → Cell
map_cell f None = None
map_cell f (Some row) = Some (f row)

-- what f finds for the row, where there is one
abbrev pub in_cell : Cell → (List Value → Cell) → Cell
in_cell None f = None
in_cell (Some row) f = f row

-- the identifier that is there, or else this one
abbrev pub id_or : ℕ → Option ℕ → ℕ
id_or n None = n
id_or n (Some p) = p

-- the value that is there, or else this one
abbrev pub value_or : Value → Option Value → Value
value_or f None = f
value_or f (Some g) = g

-- either form of an option
pub by_option : {A X : Type 0} (o : Option A) → (o ≡ None → X) → ((a : A) → o ≡ Some a → X) → X
by_option None f g = f refl
by_option (Some a) f g = g a refl
