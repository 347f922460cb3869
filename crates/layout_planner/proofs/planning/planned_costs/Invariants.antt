use Rattle.std.proofs.Common.{◌≡◌, take}
use Rattle.layout_planner.specs.inner.Plans.{planned}
use Rattle.layout_planner.proofs.planning.planned_costs.Given as goal

abbrev pub invariant-loop-place : goal.invariant-loop-place
invariant-loop-place g l = l.made ≡ planned l.graph l.plan (take l.place l.graph.versions)
