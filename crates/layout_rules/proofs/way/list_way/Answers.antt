use Rattle.std.proofs.Common.{ap, ◌∙◌, ◌++◌}
use mathlib.Core.List.{reverse}
use Rattle.layout_rules.specs.inner.Reached.{way_with}
use Rattle.layout_rules.proofs.PassLaws.{past_edges}
use Rattle.layout_rules.proofs.WayPassLemmas.{way_all, way_next}
use Rattle.layout_rules.proofs.way.list_way.Goals as goal

pub loop-place-preserved : goal.loop-place-preserved
loop-place-preserved g c =
    let l = c.loop-place in
    let es = c.args.graph.now.edges in
    way_next es c.live_operators-place-end.ensures.graph.edges c.args.layout.now c.args.tables.now (reverse es) l.place l.made _ l.invariant
    (c.in_ok-push_way.ensures ∙ ap (λ o. l.made ++ way_with es c.args.layout.now c.args.tables.now o) c.edge_at.ensures)

pub returns : goal.returns
returns g c =
    let l = c.loop-place in
    let es = c.args.graph.now.edges in
    way_all es c.live_operators-place-end.ensures.graph.edges c.args.layout.now c.args.tables.now (reverse es) l.place l.made (past_edges es l.place _ c.live_operators-place-end.ensures.count c.loop-place-test.false) l.invariant
