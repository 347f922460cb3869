-- Where cells stand.
use Rattle.std.specs.Prelude.{[], ◌∷◌}
use Rattle.op_rows.specs.declared.cells.Held.{Held}
use Rattle.op_rows.specs.declared.cells.Held.TheVariants.{Nothing, One, Two, Listed}
use Rattle.op_rows.specs.Cells.{Cells}

-- the cells, wherever they stand
abbrev pub cells_held : Held → Cells
cells_held Nothing = []
cells_held (One cell) = cell ∷ []
cells_held (Two cells) = cells
cells_held (Listed cells) = cells
