use Rattle.std.proofs.Common.{◌≡◌, ℕ, ◌<◌, length}
use Rattle.op_law.specs.Tables.{contents}
use Rattle.op_rows.specs.inner.Passes.{IsBelowAt, with_cells}
use Rattle.op_rows.proofs.pass.push_cells.Given as goal

abbrev pub invariant-loop-cell : goal.invariant-loop-cell
invariant-loop-cell l = record {
  below : (k : ℕ) → k < length l.left → IsBelowAt l.tables k l.id;
  same : with_cells (contents l.tables) l.id l.left ≡ with_cells (contents l.fn.tables) l.id l.fn.cells;
}

abbrev pub decreases-loop-cell : goal.decreases-loop-cell
decreases-loop-cell l = length l.left
