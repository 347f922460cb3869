use Rattle.std.proofs.Common.{◌≡◌, ◌≤◌, ◌++◌, map, length, take}
use Rattle.std.specs.Prelude.{◌==◌}
use mathlib.Core.List.{reverse}
use Rattle.version_graph.specs.Forest.{forest, step_told, tree, up, rest}
use Rattle.version_graph.specs.Kept.{placed_in, edges_of}
use Rattle.version_graph.proofs.walk.walk.Given as goal

abbrev pub invariant-loop-left : goal.invariant-loop-left
invariant-loop-left g l = record {
  within : l.left ≤ length l.nodes;
  upward : l.upward.items ++ map step_told (up (forest (placed_in (reverse (take l.left l.nodes)))) l.at) ≡ map step_told (up (forest (edges_of l.nodes)) l.set);
  others : map step_told (rest (λ n. tree (forest (edges_of l.nodes)) n == tree (forest (edges_of l.nodes)) l.set) (forest (placed_in (reverse (take l.left l.nodes)))) l.at) ++ reverse l.others.items
      ≡ map step_told (rest (λ n. tree (forest (edges_of l.nodes)) n == tree (forest (edges_of l.nodes)) l.set) (forest (edges_of l.nodes)) l.set);
}

abbrev pub decreases-loop-left : goal.decreases-loop-left
decreases-loop-left g l = l.left
