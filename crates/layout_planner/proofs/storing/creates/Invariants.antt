use Rattle.std.proofs.Common.{◌≡◌, filter, take}
use Rattle.layout_rules.specs.Changes.{is_empty}
use Rattle.layout_rules.specs.Lookups.{numbers_up, sources_or_none}
use Rattle.layout_planner.proofs.storing.creates.Given as goal

abbrev pub invariant-loop-place : goal.invariant-loop-place
invariant-loop-place g l = l.operators ≡ filter (λ n. is_empty (sources_or_none l.graph.edges n)) (take l.place (numbers_up l.graph.edges))
