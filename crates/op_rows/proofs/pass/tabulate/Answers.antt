use Rattle.std.proofs.Common.{◌∙◌, ap, length, arith}
use Rattle.op_rows.proofs.PassLemmas.{made_of_none, pass_more, pass_below}
use Rattle.op_rows.proofs.pass.tabulate.Goals as goal

pub loop-id-init : goal.loop-id-init
loop-id-init g c = record {
  made = c.in_ok-tables.ensures ∙ made_of_none c.args.count (g.M.MakesCells.made c.args.each.now);
  steps = omega arith;
}

pub push_cells-requires : goal.push_cells-requires
push_cells-requires g c =
    pass_below c.args.count c.args.ids.now c.loop-id.id-index (g.M.MakesCells.made c.args.each.now) c.loop-id.tables.items c.deref_mut.result.now
    c.requires.rise c.loop-id-test.true c.deref_mut.ensures.value c.loop-id.invariant.made

pub loop-id-preserved : goal.loop-id-preserved
loop-id-preserved g c =
    record {
      made = pass_more c.args.count c.args.ids.now c.loop-id.id-index (g.M.MakesCells.made c.args.each.now) c.loop-id.tables.len c.loop-id.tables.items c.deref_mut.result.now c.push_cells.new.tables c.in_ok-cells.cells
          c.loop-id-test.true c.deref_mut.ensures.value c.loop-id.invariant.made (omega (arith, c.push_cells.auto.tables, c.deref_mut.ensures.len)) (omega (arith, ap length c.deref_mut.ensures.value, c.deref_mut.ensures.len)) c.in_ok-push_cells.ensures c.in_ok-cells.ensures.answer;
      steps = grind (arith, c.in_ok-cells.ensures.steps, c.loop-id.invariant.steps);
    }
