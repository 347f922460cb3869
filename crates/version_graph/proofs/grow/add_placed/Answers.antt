use Rattle.std.proofs.Common.{List, ◌∷◌, subst, sym}
use Rattle.version_graph.specs.Sets.{In}
use Rattle.version_graph.specs.Edges.{numbers}
use Rattle.version_graph.specs.Kept.{edges_of, IsRight}
use Rattle.version_graph.specs.declared.node.Node.{Node}
use Rattle.version_graph.proofs.grow.add_placed.Goals as goal

pub node_on-requires-clause-live : goal.node_on-requires-clause-live
node_on-requires-clause-live g c = subst (λ (l : List (Node _)). In c.args.placed.parent (0 ∷ numbers (edges_of l))) (sym c.as_slice.ensures.value) c.requires.live

pub returns-clause-ok : goal.returns-clause-ok
returns-clause-ok g c = (
  c.in_ok-node.node,
  c.in_ok-push.ensures.items,
  c.in_ok-node.ensures.placed,
  subst (λ (l : List (Node _)). IsRight (edges_of l) c.in_ok-node.node) c.as_slice.ensures.value c.in_ok-node.ensures.right,
  c.in_ok-node.ensures.before,
)
