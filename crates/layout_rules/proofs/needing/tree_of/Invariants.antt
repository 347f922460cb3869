use Rattle.std.proofs.Common.{◌≡◌, ◌≤◌, length, take}
use mathlib.Core.List.{reverse}
use Rattle.version_graph.specs.Forest.{forest, tree}
use Rattle.layout_rules.proofs.needing.tree_of.Given as goal

abbrev pub invariant-loop-left : goal.invariant-loop-left
invariant-loop-left g l = record {
  within : l.left ≤ length l.graph.edges;
  so_far : tree (reverse (take l.left (reverse (forest l.graph.edges)))) l.at ≡ tree (forest l.graph.edges) l.set;
}

abbrev pub decreases-loop-left : goal.decreases-loop-left
decreases-loop-left g l = l.left
