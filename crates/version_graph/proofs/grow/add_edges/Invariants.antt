use Rattle.std.proofs.Common.{◌≡◌, ◌+◌, length, take, vec_len}
use mathlib.Core.List.{reverse}
use Rattle.version_graph.specs.Evolve.{grown, targets_in}
use Rattle.version_graph.specs.Kept.{AreMarked, AreRight, edges_of}
use Rattle.version_graph.specs.Calls.{CanGrow}
use Rattle.version_graph.proofs.grow.add_edges.Given as goal

abbrev pub invariant-loop-edge : goal.invariant-loop-edge
invariant-loop-edge g l = record {
  right : AreRight (reverse l.nodes.items);
  can : CanGrow (edges_of l.nodes.items) l.parent l.last.operator l.last.table (reverse l.left.items);
  front : take (length l.fn.nodes.items) l.nodes.items ≡ l.fn.nodes.items;
  rest : grown (edges_of l.nodes.items) l.parent l.last.operator l.last.table (reverse l.left.items) ≡ grown (edges_of l.fn.nodes.items) l.fn.set l.fn.start.operator l.fn.start.table l.fn.edges;
  marked : AreMarked l.last.table (reverse l.nodes.items);
  tables : l.last.table + targets_in (reverse l.left.items) ≡ l.fn.start.table + targets_in l.fn.edges;
}

abbrev pub decreases-loop-edge : goal.decreases-loop-edge
decreases-loop-edge g l = vec_len l.left
