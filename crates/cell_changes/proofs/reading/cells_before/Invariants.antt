use Rattle.std.proofs.Common.{◌≡◌, take}
use Rattle.op_rows.specs.Cells.{cells_at}
use Rattle.operator_changes.specs.Pairs.{side_at}
use Rattle.cell_changes.proofs.reading.cells_before.Given as goal

abbrev pub invariant-loop-which : goal.invariant-loop-which
invariant-loop-which g l = record {
  cells : l.cells ≡ cells_at (take l.which (side_at l.target (g.V.PairRead.pair l.fn.old))) l.id;
  same : g.V.PairRead.pair l.old ≡ g.V.PairRead.pair l.fn.old;
}
