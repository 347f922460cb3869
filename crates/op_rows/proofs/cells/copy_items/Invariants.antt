use Rattle.std.proofs.Common.{◌≡◌, take}
use Rattle.op_rows.proofs.cells.copy_items.Given as goal

abbrev pub invariant-loop-cell : goal.invariant-loop-cell
invariant-loop-cell l = l.made ≡ take l.cell-index l.cells
