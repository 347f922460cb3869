use Rattle.std.proofs.Common.{◌≡◌, ◌++◌, drop, Ok}
use Rattle.par_base.specs.Checked.{◌then◌}
use Rattle.engine_statements.specs.Statements.{known_items}
use Rattle.engine_statements.proofs.items.find_items.Given as goal

abbrev pub invariant-loop-name : goal.invariant-loop-name
invariant-loop-name l = known_items l.shown l.names ≡ ((known_items l.shown (drop l.name-index l.names)) then λ rest. Ok (l.places ++ rest))
