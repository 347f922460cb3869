use Rattle.std.proofs.Common.{get_or, refl, arith}
use Rattle.layout_planner.proofs.ListLemmas.{place_below}
use Rattle.layout_planner.proofs.reckoning.tables_cost.Goals as goal

pub overflow_add-total : goal.overflow_add-total
overflow_add-total g c =
    let l = c.loop-table in
    let tables = c.args.tables.now in
    let below = place_below tables l.table-index (get_or tables l.table-index 0) c.requires.rising c.loop-table-test.true refl in
    let fits = c.type_inv.tables l.table-index in
    omega (arith, below, fits, c.in_ok-total.ensures.few, l.invariant.few)
