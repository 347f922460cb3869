use Rattle.std.proofs.Common.{ap, ◌∙◌}
use Rattle.layout_rules.specs.inner.Reached.{down_from, down_with}
use Rattle.layout_rules.proofs.DownLaws.{below_past}
use Rattle.layout_rules.proofs.WayPassLemmas.{down_next}
use Rattle.layout_rules.proofs.way.reach_down.Goals as goal

pub loop-place-preserved : goal.loop-place-preserved
loop-place-preserved g c =
    let l = c.loop-place in
    let es = c.args.graph.now.edges in
    down_next es c.live_operators-place-end.ensures.graph.edges c.args.layout.now l.place c.args.tables.now.items l.tables.items _ l.invariant (c.in_ok-add_down.ensures ∙ ap (λ o. down_with es c.args.layout.now l.tables.items o) c.edge_at.ensures)

pub returns : goal.returns
returns g c =
    let l = c.loop-place in
    l.invariant ∙ ap (λ fs. down_from c.args.layout.now fs c.args.tables.now.items) (below_past c.args.graph.now.edges l.place _ c.live_operators-place-end.ensures.count c.loop-place-test.false)
