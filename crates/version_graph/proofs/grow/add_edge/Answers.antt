use Rattle.std.proofs.Common.{◌≡◌, length, subst, sym}
use Rattle.std.specs.Prelude.{OnOk}
use Rattle.version_graph.specs.Calls.{AddsNode}
use Rattle.version_graph.specs.declared.parts.Placed.{Placed}
use Rattle.version_graph.proofs.GrowLaws.{length_after}
use Rattle.version_graph.proofs.grow.add_edge.Goals as goal

pub add_placed-requires-clause-counted : goal.add_placed-requires-clause-counted
add_placed-requires-clause-counted g c =
    let is = c.in_ok-placed.ensures in
    subst (λ (p : Placed _). length p.tables ≡ length p.edge.targets) (sym is) (length_after c.args.last.table c.args.edge.targets)

pub returns-clause-ok : goal.returns-clause-ok
returns-clause-ok g c =
    let is = c.in_ok-placed.ensures in
    subst (λ (p : Placed _). OnOk c.add_placed.result (AddsNode c.args.nodes.now.items c.args.last.table p c.add_placed.new.nodes.items)) is c.add_placed.ensures.ok
