-- What comes next in a table, told by what is made at an identifier.
use Rattle.std.specs.Prelude.{◌≡◌, ℕ}
use Rattle.row_store.specs.Rows.{Rows}
use Rattle.op_rows.specs.Cells.{with_row}
use Rattle.row_parts.specs.RowCells.{Cell}

-- what is made there comes next, and then the rest
abbrev pub Comes : ℕ → Cell → Rows → Rows → Type 0
Comes id made left rest = left ≡ with_row id made rest

-- it doesn't come next, whatever the rest is
abbrev pub CantCome : ℕ → Cell → Rows → Type 0
CantCome id made left = (rest : Rows) → with_row id made rest ≡ left → ⊥
