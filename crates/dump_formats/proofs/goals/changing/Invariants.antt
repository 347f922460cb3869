use Rattle.std.proofs.Common.{◌≡◌, filter, take}
use Rattle.migration.specs.Sides.{changes_side}
use Rattle.dump_formats.proofs.goals.changing.Given as goal

abbrev pub invariant-loop-operator : goal.invariant-loop-operator
invariant-loop-operator l = l.made ≡ filter (changes_side l.layout l.goal) (take l.operator-index l.operators)
