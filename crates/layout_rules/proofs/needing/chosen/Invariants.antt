use Rattle.std.proofs.Common.{◌≡◌, filter, take}
use Rattle.layout_rules.specs.Lookups.{numbers_up, stays}
use Rattle.layout_rules.proofs.needing.chosen.Given as goal

abbrev pub invariant-loop-place : goal.invariant-loop-place
invariant-loop-place g l = l.made ≡ filter (stays l.graph.edges l.choice.trees.now l.choice.wanted.now l.choice.layout.now) (take l.place (numbers_up l.graph.edges))
