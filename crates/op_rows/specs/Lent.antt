-- What is lent of tables at one identifier.
use Rattle.op_law.specs.Tables.{contents}
use Rattle.op_rows.specs.declared.lent.Lent.{Lent}
use Rattle.op_rows.specs.declared.lent.Lent.TheVariants.{Stored, Made}
use Rattle.op_rows.specs.Cells.{Cells, cells_at}

-- the cells, wherever they are lent from
abbrev pub cells_in : Lent → Cells
cells_in (Stored tables id) = cells_at (contents tables.now) id
cells_in (Made cells) = cells.now
