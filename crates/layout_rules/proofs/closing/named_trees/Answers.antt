use Rattle.layout_rules.proofs.CloseLaws.{trees_next}
use Rattle.layout_rules.proofs.closing.named_trees.Goals as goal

pub loop-target-preserved : goal.loop-target-preserved
loop-target-preserved g c =
    let l = c.loop-target in
    trees_next c.args.graph.now c.args.named.now l.target-index c.target-item.result c.loop-target-test.true c.target-item.is l.made.items _ l.invariant c.in_ok-push_tree.ensures
