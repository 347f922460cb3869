use Rattle.std.proofs.Common.{◌≡◌, ◌≤◌, length, take, drop}
use mathlib.Core.List.{reverse}
use Rattle.version_graph.specs.Edges.{version_sets}
use Rattle.version_graph.specs.Finished.{are_needed}
use Rattle.version_graph.specs.Kept.{edges_of, needed_by, placed_in}
use Rattle.version_graph.proofs.place.are_needed.Given as goal

abbrev pub invariant-loop-left : goal.invariant-loop-left
invariant-loop-left g l = record {
  within : l.left ≤ length l.nodes;
  so_far : are_needed (needed_by (drop l.left l.nodes) (version_sets l.versions.entries)) (placed_in (reverse (take l.left l.nodes))) ≡ are_needed (version_sets l.versions.entries) (edges_of l.nodes);
}

abbrev pub decreases-loop-left : goal.decreases-loop-left
decreases-loop-left g l = l.left
