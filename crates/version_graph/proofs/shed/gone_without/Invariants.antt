use Rattle.std.proofs.Common.{◌≡◌, ◌≤◌, ◌++◌, length, take}
use mathlib.Core.List.{reverse}
use Rattle.version_graph.specs.Dropped.{doomed}
use Rattle.version_graph.specs.Kept.{placed_in, edges_of}
use Rattle.version_graph.proofs.shed.gone_without.Given as goal

abbrev pub invariant-loop-left : goal.invariant-loop-left
invariant-loop-left g l = record {
  within : l.left ≤ length l.nodes;
  so_far : l.gone ++ doomed l.needed.items (placed_in (reverse (take l.left l.nodes))) ≡ doomed l.fn.sets.items (edges_of l.nodes);
}

abbrev pub decreases-loop-left : goal.decreases-loop-left
decreases-loop-left g l = l.left
