use mathlib.Core.List.{reverse}
use Rattle.std.proofs.Common.{sym, inr, arith}
use Rattle.version_graph.specs.Kept.{edges_of}
use Rattle.version_graph.proofs.NodeLaws.{tree_of_node, has_node, above_zero}
use Rattle.version_graph.proofs.walk.tree_of.Goals as goal

pub returns-in-Some : goal.returns-in-Some
returns-in-Some g c = sym (tree_of_node (reverse c.args.nodes.now) c.requires.right c.args.set c.in-Some.node.now (sym c.in-Some.ensures))

pub returns-in-None : goal.returns-in-None
returns-in-None g c =
    let more = above_zero (edges_of c.args.nodes.now) c.requires.edges c.args.set c.requires.live in
    absurd (has_node (reverse c.args.nodes.now) c.args.set (inr c.requires.live) (λ z. omega arith) (sym c.in-None.ensures))
