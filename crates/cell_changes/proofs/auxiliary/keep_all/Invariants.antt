use Rattle.std.proofs.Common.{◌≡◌, ◌≤◌, ◌+◌, ◌*◌, length, take}
use Rattle.op_law.specs.Tables.{contents}
use Rattle.op_rows.specs.Cells.{cells_at}
use Rattle.op_rows.specs.NearSides.{seen_from}
use Rattle.operator_changes.specs.Calls.{ahead}
use Rattle.cell_changes.specs.Crossing.{near_side, aux_cells}
use Rattle.cell_changes.specs.Growing.{PicksCells}
use Rattle.cell_changes.proofs.auxiliary.keep_all.Given as goal

abbrev pub invariant-loop-id : goal.invariant-loop-id
invariant-loop-id g l =
    let p = ahead l.backward (g.V.PairRead.pair l.fn.old) in
    let r = seen_from (near_side l.backward) (g.R.RowOperator.row_meaning l.operator) in
    record {
      picks : PicksCells (cells_at (contents l.aux)) (aux_cells r l.changes.near.now l.changes.far.now p) (take l.id-index l.ids) l.tables.items;
      many : length l.tables.items ≡ length l.aux;
      same : g.V.PairRead.pair l.old ≡ g.V.PairRead.pair l.fn.old;
      steps : l.steps ≤ l.fn.steps + 8 * l.id-index;
    }
