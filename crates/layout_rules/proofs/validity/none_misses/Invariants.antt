use Rattle.std.proofs.Common.{◌≡◌, true, take}
use Rattle.std.specs.List.{list_all}
use Rattle.layout_rules.specs.Lookups.{may_miss, numbers_up}
use Rattle.layout_rules.proofs.validity.none_misses.Given as goal

abbrev pub invariant-loop-place : goal.invariant-loop-place
invariant-loop-place g l = list_all (may_miss l.graph.edges l.layout) (take l.place (numbers_up l.graph.edges)) ≡ true
