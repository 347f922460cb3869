-- Columns of two tables that are equal wherever a condition holds of their joined rows.
use Rattle.std.specs.Prelude.{◌≡◌, ℕ, suc, ◌+◌, ◌-◌, ◌<◌, ◌==◌, nat_lt, ◌||◌, true, List, [], ◌∷◌, length, option_map, Option, Some, None, if◌then◌else◌}
use Rattle.expr_lang.specs.Terms.{Term, Literal, Column, Unary, Binary}
use Rattle.expr_lang.specs.declared.tree.BinaryOp.{BinaryOp}
use Rattle.expr_lang.specs.declared.tree.BinaryOp.TheVariants as «op»
use Rattle.expr_lang.specs.Val.{holds_at}
use Rattle.par_base.specs.declared.value.Value.{Value}
use Rattle.row_parts.specs.Places.{row_of_both as joined_row}
use Rattle.row_parts.specs.RowEdits.{value_at}
use Rattle.pair_rows.specs.Shown.{Joining}

-- at which place of a list this one stands first
abbrev pub place_in : List ℕ → ℕ → Option ℕ
place_in [] place = None
place_in (p ∷ ps) place = if p == place then Some 0 else option_map (λ at. suc at) (place_in ps place)

-- the place of a joined row is that of a column of the one table, and of none of the other
pub record IsColumn (own others : List ℕ) (place column : ℕ) : Type 0 where
  pub here : place_in own place ≡ Some column
  pub not_there : place_in others place ≡ None
  pub within : place < length own + length others

-- two places of joined rows have what the rows of both tables have in these columns
pub record AreColumns (j : Joining) (p q x y : ℕ) : Type 0 where
  pub first : (row other : List Value) → value_at p (joined_row j.first j.second row other) ≡ value_at x row
  pub second : (row other : List Value) → value_at q (joined_row j.first j.second row other) ≡ value_at y other

-- where the condition holds of two rows, joined, the one's value in x is the other's in y
abbrev pub MakesEqual : Joining → Term ℕ → ℕ → ℕ → Type 0
MakesEqual j condition x y = (row other : List Value) → holds_at condition (joined_row j.first j.second row other) ≡ true → value_at x row ≡ value_at y other

-- ---- which columns these are

-- of the one table alone: a place within the row that is none of the other table
abbrev pub column_if : Option ℕ → Option ℕ → Option ℕ
column_if None column = column
column_if (Some other) column = None

abbrev pub column_at : List ℕ → List ℕ → ℕ → Option ℕ
column_at own others place = column_if (place_in others place) (if nat_lt place (length own) || nat_lt (place - length own) (length others) then place_in own place else None)

-- both of two, where there are both
abbrev pub both_of : Option ℕ → Option ℕ → Option (ℕ × ℕ)
both_of None y = None
both_of (Some x) None = None
both_of (Some x) (Some y) = Some (x, y)

-- the first of two answers, where there is one, and else the second
abbrev pub or_else : Option (ℕ × ℕ) → Option (ℕ × ℕ) → Option (ℕ × ℕ)
or_else None other = other
or_else (Some both) other = Some both

-- the place of a joined row that an expression names
abbrev pub place_named : Term ℕ → Option ℕ
place_named (Literal v) = None
place_named (Column place) = Some place
place_named (Unary op t) = None
place_named (Binary op t u) = None

-- the columns at two places of joined rows, where the first is one of S, and the second of T
abbrev pub columns_at : Joining → ℕ → ℕ → Option (ℕ × ℕ)
columns_at j p q = both_of (column_at j.first j.second p) (column_at j.second j.first q)

-- the columns of an equality of two columns, one of each table, in either order
abbrev pub columns_by : Joining → Option ℕ → Option ℕ → Option (ℕ × ℕ)
columns_by j None q = None
columns_by j (Some p) None = None
columns_by j (Some p) (Some q) = or_else (columns_at j p q) (columns_at j q p)

-- of an equality those of its sides, of AND what is found in either part, and none of others
abbrev pub equal_by : BinaryOp → Option (ℕ × ℕ) → Option (ℕ × ℕ) → Option (ℕ × ℕ)
equal_by «op».Equal here parts = here
equal_by «op».And here parts = parts
equal_by «op».Or here parts = None
equal_by «op».NotEqual here parts = None
equal_by «op».Less here parts = None
equal_by «op».LessOrEqual here parts = None
equal_by «op».Greater here parts = None
equal_by «op».GreaterOrEqual here parts = None
equal_by «op».Add here parts = None
equal_by «op».Subtract here parts = None
equal_by «op».Concat here parts = None
equal_by «op».Multiply here parts = None
equal_by «op».Divide here parts = None
equal_by «op».Remainder here parts = None

-- THE COLUMNS OF THE FIRST EQUALITY of two columns, one of each table, among what a condition joins by AND
abbrev pub equal_in : Joining → Term ℕ → Option (ℕ × ℕ)
equal_in j (Literal v) = None
equal_in j (Column place) = None
equal_in j (Unary op t) = None
equal_in j (Binary op t u) = equal_by op (columns_by j (place_named t) (place_named u)) (or_else (equal_in j t) (equal_in j u))
