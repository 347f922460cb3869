use mathlib.Core.List.{reverse}
use Rattle.engine_layouts.specs.inner.Calls.{shown_edge}
use Rattle.engine_layouts.proofs.ShowLemmas.{edges_next}
use Rattle.engine_layouts.proofs.show.show_operators.Goals as goal

pub loop-place-preserved : goal.loop-place-preserved
loop-place-preserved c =
    let l = c.loop-place in
    let f = shown_edge c.args.layout.now c.args.auxes.now in
    edges_next f (reverse c.args.graph.now.edges) l.place l.made c.push_operator.new.made _ c.edge_at.ensures l.invariant c.in_ok-push_operator.ensures
