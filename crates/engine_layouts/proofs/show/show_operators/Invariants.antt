use Rattle.std.proofs.Common.{◌≡◌, map, take}
use mathlib.Core.List.{reverse}
use Rattle.engine_layouts.specs.inner.Calls.{shown_edge}
use Rattle.engine_layouts.proofs.show.show_operators.Given as goal

abbrev pub invariant-loop-place : goal.invariant-loop-place
invariant-loop-place l = l.made ≡ map (shown_edge l.layout l.auxes) (take l.place (reverse l.graph.edges))
