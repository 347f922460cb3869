use Rattle.std.proofs.Common.{sym}
use Rattle.version_graph.proofs.HalvingLemmas.{node_here, none_behind, none_here}
use Rattle.version_graph.proofs.look.node_of.Goals as goal

pub returns-then-node-number : goal.returns-then-node-number
returns-then-node-number g c = sym (node_here c.args.nodes.now c.requires c.args.number c.place_of-place.result c.in-Some.node.now (sym c.in-Some.ensures) c.if-node-number.true)

pub returns-else-node-number : goal.returns-else-node-number
returns-else-node-number g c = sym (none_here c.args.nodes.now c.requires c.args.number c.place_of-place.result c.in-Some.node.now c.place_of-place.ensures (sym c.in-Some.ensures) c.if-node-number.false)

pub returns-in-None : goal.returns-in-None
returns-in-None g c = sym (none_behind c.args.nodes.now c.args.number c.place_of-place.result c.place_of-place.ensures (sym c.in-None.ensures))
