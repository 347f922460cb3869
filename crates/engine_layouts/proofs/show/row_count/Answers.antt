use Rattle.engine_layouts.proofs.ShowLemmas.{count_next}
use Rattle.engine_layouts.proofs.show.row_count.Goals as goal

pub loop-table-preserved : goal.loop-table-preserved
loop-table-preserved c =
    let l = c.loop-table in
    let sum = rw c.len.ensures at c.in_ok-total.ensures in
    count_next c.args.tables.now l.table-index c.table-item.result l.total c.in_ok-total.total c.loop-table-test.true c.table-item.is l.invariant sum
