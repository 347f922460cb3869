use Rattle.std.proofs.Common.{◌≡◌, ◌≤◌, ◌++◌, length, take}
use mathlib.Core.List.{reverse}
use Rattle.version_graph.specs.Forest.{forest}
use Rattle.layout_rules.specs.Passes.{needed}
use Rattle.layout_rules.specs.Lookups.{in_trees}
use Rattle.layout_rules.proofs.needing.needed.Given as goal

abbrev pub invariant-loop-left : goal.invariant-loop-left
invariant-loop-left g l = record {
  within : l.left ≤ length l.graph.edges;
  so_far : l.made.items ++ needed (in_trees l.graph.edges l.trees) (reverse (take l.left (reverse (forest l.graph.edges)))) l.tables.items ≡ needed (in_trees l.graph.edges l.trees) (forest l.graph.edges) l.fn.named.items;
}

abbrev pub decreases-loop-left : goal.decreases-loop-left
decreases-loop-left g l = l.left
