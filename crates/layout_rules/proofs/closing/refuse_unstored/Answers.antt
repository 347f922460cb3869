use Rattle.std.proofs.Common.{sym, ◌∙◌}
use Rattle.layout_rules.proofs.CloseLaws.{unstored_here}
use Rattle.layout_rules.proofs.closing.refuse_unstored.Goals as goal

pub returns-then-not-branch : goal.returns-then-not-branch
returns-then-not-branch g c =
    let l = c.loop-target in
    unstored_here c.args.graph.now c.args.named.now l.target-index c.target-item.result c.loop-target-test.true c.target-item.is c.args.layout.now c.refused.result l.invariant
    (sym c.in_ok-stores.ensures ∙ c.if-not-branch.true) c.refused.ensures
