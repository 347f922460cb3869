use Rattle.std.proofs.Common.{◌≡◌, filter, take}
use Rattle.migration.specs.Sides.{keeps_side}
use Rattle.migration.proofs.sides.leaving.Given as goal

abbrev pub invariant-loop-operator : goal.invariant-loop-operator
invariant-loop-operator g l = l.made ≡ filter (keeps_side l.graph.edges l.gone) (take l.operator-index l.layout)
