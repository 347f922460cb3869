use Rattle.std.proofs.Common.{◌≡◌, ◌≤◌, ◌++◌, length, take, drop}
use mathlib.Core.List.{reverse}
use Rattle.version_graph.specs.Edges.{version_sets}
use Rattle.version_graph.specs.Kept.{needed_by, staying_nodes}
use Rattle.version_graph.proofs.shed.shed.Given as goal

abbrev pub invariant-loop-left : goal.invariant-loop-left
invariant-loop-left g l = record {
  within : l.left ≤ length l.nodes.items;
  so_far : reverse (drop l.left l.nodes.items) ++ staying_nodes (needed_by (drop l.left l.nodes.items) (version_sets l.versions.entries)) (reverse (take l.left l.nodes.items)) ≡ staying_nodes (version_sets l.versions.entries) (reverse l.fn.nodes.items);
}

abbrev pub decreases-loop-left : goal.decreases-loop-left
decreases-loop-left g l = l.left
