use Rattle.std.proofs.Common.{ap, ◌∙◌, arith}
use Rattle.layout_rules.specs.inner.Reached.{up_from, up_with}
use Rattle.layout_rules.proofs.DownLaws.{below_all}
use Rattle.layout_rules.proofs.WayPassLemmas.{up_step}
use Rattle.layout_rules.proofs.way.reach_up.Goals as goal

pub loop-left-init : goal.loop-left-init
loop-left-init g c =
    let count = c.live_operators-left.ensures.count in
    record { within = omega (arith, count); so_far = ap (λ l. up_from c.args.layout.now l c.args.tables.now.items) (below_all c.args.graph.now.edges c.live_operators-left.result count) }

pub loop-left-preserved : goal.loop-left-preserved
loop-left-preserved g c =
    let l = c.loop-left in
    let es = c.args.graph.now.edges in
    record {
      within = omega (arith, l.invariant.within);
      so_far = up_step es c.live_operators-left.ensures.graph.edges c.args.layout.now l.left l.tables.items c.add_up.new.tables.items c.loop-left-test.true (c.in_ok-add_up.ensures ∙ ap (λ o. up_with es c.args.layout.now l.tables.items o) c.edge_at.ensures) ∙ l.invariant.so_far;
    }
