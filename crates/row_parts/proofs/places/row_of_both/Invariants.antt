use Rattle.std.proofs.Common.{◌≡◌, ◌+◌, length}
use Rattle.row_parts.specs.Places.{filled, value_of_both}
use Rattle.row_parts.proofs.places.row_of_both.Given as goal

abbrev pub invariant-loop : goal.invariant-loop
invariant-loop l = l.row.items ≡ filled l.counter 0 (value_of_both l.first_places l.second_places l.first l.second)

abbrev pub invariant-loop-2 : goal.invariant-loop-2
invariant-loop-2 l = l.row.items ≡ filled (length l.first_places + l.counter) 0 (value_of_both l.first_places l.second_places l.first l.second)
