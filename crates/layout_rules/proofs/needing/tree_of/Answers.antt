use Rattle.std.proofs.Common.{ap, ◌∙◌, arith}
use Rattle.version_graph.specs.Forest.{tree}
use Rattle.layout_rules.proofs.DownLaws.{below_all, step_up}
use Rattle.layout_rules.proofs.needing.tree_of.Goals as goal

pub loop-left-init : goal.loop-left-init
loop-left-init g c =
    let count = c.live_operators-left.ensures.count in
    record { within = omega (arith, count); so_far = ap (λ l. tree l c.args.set) (below_all c.args.graph.now.edges c.live_operators-left.result count) }

pub loop-left-preserved : goal.loop-left-preserved
loop-left-preserved g c =
    let l = c.loop-left in
    record {
      within = omega (arith, l.invariant.within);
      so_far = step_up c.args.graph.now.edges c.live_operators-left.ensures.graph.edges l.left l.at _ c.loop-left-test.true c.climbed-at.ensures ∙ l.invariant.so_far;
    }
