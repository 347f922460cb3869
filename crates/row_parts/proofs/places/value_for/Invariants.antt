use Rattle.std.proofs.Common.{◌≡◌, drop}
use Rattle.row_parts.specs.Places.{value_for}
use Rattle.row_parts.proofs.places.value_for.Given as goal

abbrev pub invariant-loop-at : goal.invariant-loop-at
invariant-loop-at l = value_for (drop l.at l.places) (drop l.at l.values) l.place ≡ value_for l.places l.values l.place
