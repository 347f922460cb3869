use Rattle.std.proofs.Common.{◌≡◌, ◌++◌, drop, Ok}
use Rattle.par_base.specs.Checked.{◌then◌}
use Rattle.op_checks.specs.NameChecks.{known_places}
use Rattle.op_checks.proofs.checks.find_places.Given as goal

abbrev pub invariant-loop-name : goal.invariant-loop-name
invariant-loop-name l = known_places l.columns l.names ≡ ((known_places l.columns (drop l.name-index l.names)) then λ rest. Ok (l.places ++ rest))
