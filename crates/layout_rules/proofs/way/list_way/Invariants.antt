use Rattle.std.proofs.Common.{◌≡◌, take}
use mathlib.Core.List.{reverse}
use Rattle.layout_rules.specs.inner.Reached.{way_along}
use Rattle.layout_rules.proofs.way.list_way.Given as goal

abbrev pub invariant-loop-place : goal.invariant-loop-place
invariant-loop-place g l = l.made ≡ way_along l.graph.edges l.layout l.tables (take l.place (reverse l.graph.edges))
