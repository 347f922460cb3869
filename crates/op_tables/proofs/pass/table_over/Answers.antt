use Rattle.op_tables.proofs.PassLemmas.{pass_below, pass_more}
use Rattle.op_tables.proofs.pass.table_over.Goals as goal

pub push_row-requires : goal.push_row-requires
push_row-requires g c =
    pass_below c.args.ids.now c.loop-id.id-index (g.M.MakesRow.made c.args.each.now) c.loop-id.table.rows c.requires.rise c.loop-id-test.true c.loop-id.invariant

pub loop-id-preserved : goal.loop-id-preserved
loop-id-preserved g c =
    pass_more c.args.ids.now c.loop-id.id-index (g.M.MakesRow.made c.args.each.now) c.loop-id.table.rows c.push_row.new.table.rows c.in_ok-row.row c.loop-id-test.true c.loop-id.invariant c.in_ok-row.ensures c.in_ok-push_row.ensures
