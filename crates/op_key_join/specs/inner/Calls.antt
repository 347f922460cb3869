-- What inner calls suppose and answer.
use Rattle.std.specs.Prelude.{◌≡◌, ℕ, ◌+◌, length, true, Some, None}
use Rattle.op_rows.specs.Cells.{CellWide}
use Rattle.row_parts.specs.RowCells.{Cell}
use Rattle.op_key_join.specs.Nulls.{is_null}
use Rattle.op_key_join.specs.JoinPk.{joined}

-- what an identifier in neither target may have: nothing, or nulls for both parts
abbrev pub MayBeOfNeither : ℕ → ℕ → Cell → Type 0
MayBeOfNeither first second None = Unit {0}
MayBeOfNeither first second (Some row) = (length row ≡ first + second) × (is_null row ≡ true)

-- what of the sources may stand where the target has no row: at most one row, as wide as its table
abbrev pub MayStandAlone : ℕ → ℕ → Cell → Cell → Type 0
MayStandAlone first second x y = CellWide first x × CellWide second y × (joined x y ≡ None)
