use Rattle.std.proofs.Common.{◌≡◌, filter, take}
use Rattle.layout_rules.specs.Lookups.{numbers_up}
use Rattle.migration.specs.Sides.{changes_side}
use Rattle.migration.proofs.sides.changing.Given as goal

abbrev pub invariant-loop-place : goal.invariant-loop-place
invariant-loop-place g l = l.made ≡ filter (changes_side l.layout l.goal) (take l.place (numbers_up l.graph.edges))
