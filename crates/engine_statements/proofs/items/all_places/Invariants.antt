use Rattle.std.proofs.Common.{◌≡◌, take}
use Rattle.engine_statements.specs.Statements.{places_from}
use Rattle.engine_statements.proofs.items.all_places.Given as goal

abbrev pub invariant-loop-at : goal.invariant-loop-at
invariant-loop-at l = l.places ≡ places_from 0 (take l.at l.names)
