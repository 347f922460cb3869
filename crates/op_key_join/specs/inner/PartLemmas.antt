-- Parts of rows, and rows put together from parts: how wide they are, and that what may stand gives what may stand.
use Rattle.std.proofs.Common.{◌≡◌, ℕ, ◌+◌, List, length, Some, None}
use Rattle.par_base.specs.declared.value.Value.{Value}
use Rattle.par_base.specs.declared.value.Value.TheVariants.{Null}
use Rattle.op_law.specs.Sound.{ValuesSound}
use Rattle.op_rows.specs.Cells.{CellWide, CellSound}
use Rattle.row_parts.specs.RowCells.{Cell, map_cell, row_or, value_or}
use Rattle.row_parts.specs.Places.{pick, nulls, value_for, value_of_both, row_of_both}
use Rattle.row_parts.specs.inner.PlaceLemmas.{length-pick, length-filled, length-nulls, pick_sound, filled_sound, nulls_sound, value_for_sound}

-- the values at some places
pub pick_wide : (places : List ℕ) (c : Cell) → CellWide (length places) (map_cell (pick places) c)
pick_wide places None = tt
pick_wide places (Some row) = length-pick places row

pub pick_may : (n : ℕ) (places : List ℕ) (c : Cell) → CellSound n c → CellSound n (map_cell (pick places) c)
pick_may n places None sound = tt
pick_may n places (Some row) sound = pick_sound n places row sound

-- a row, or so many nulls
pub or_nulls_wide : (width : ℕ) (c : Cell) → CellWide width c → length (row_or (nulls width) c) ≡ width
or_nulls_wide width None wide = length-nulls width
or_nulls_wide width (Some row) wide = wide

pub or_nulls_may : (n width : ℕ) (c : Cell) → CellSound n c → ValuesSound n (row_or (nulls width) c)
or_nulls_may n width None sound = nulls_sound n width
or_nulls_may n width (Some row) sound = sound

-- the row of both parts
pub both_wide : (first second : List ℕ) (x y : List Value) → length (row_of_both first second x y) ≡ length first + length second
both_wide first second x y = length-filled (length first + length second) 0 (value_of_both first second x y)

pub both_may : (n : ℕ) (first second : List ℕ) (x y : List Value) → ValuesSound n x → ValuesSound n y → ValuesSound n (row_of_both first second x y)
both_may n first second x y sound other =
    filled_sound n (length first + length second) 0 (value_of_both first second x y)
    (λ place.
    value_for_sound n first x place (value_or Null (value_for second y place)) sound
    (value_for_sound n second y place Null other tt))
