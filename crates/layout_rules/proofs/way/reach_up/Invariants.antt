use Rattle.std.proofs.Common.{◌≡◌, ◌≤◌, length}
use Rattle.version_graph.specs.Forest.{forest}
use Rattle.layout_rules.specs.inner.Reached.{up_from}
use Rattle.layout_rules.proofs.DownLaws.{below}
use Rattle.layout_rules.proofs.way.reach_up.Given as goal

abbrev pub invariant-loop-left : goal.invariant-loop-left
invariant-loop-left g l = record {
  within : l.left ≤ length l.graph.edges;
  so_far : up_from l.layout (below l.graph.edges l.left) l.tables.items ≡ up_from l.layout (forest l.graph.edges) l.fn.tables.items;
}

abbrev pub decreases-loop-left : goal.decreases-loop-left
decreases-loop-left g l = l.left
