use Rattle.std.proofs.Common.{◌≡◌, take}
use mathlib.Core.List.{reverse}
use Rattle.version_graph.specs.Edges.{numbers}
use Rattle.dump_file.proofs.filling.live_numbers.Given as goal

abbrev pub invariant-loop-place : goal.invariant-loop-place
invariant-loop-place l = l.made ≡ take l.place (reverse (numbers l.graph.edges))
