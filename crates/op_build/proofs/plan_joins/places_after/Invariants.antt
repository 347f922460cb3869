use Rattle.std.proofs.Common.{◌≡◌, length}
use Rattle.op_outer_cond.specs.Outerings.{places_from}
use Rattle.op_build.proofs.plan_joins.places_after.Given as goal

abbrev pub invariant-loop-at : goal.invariant-loop-at
invariant-loop-at l = l.places ≡ places_from (length l.before) l.at
