use Rattle.std.proofs.Common.{◌≡◌}
use Rattle.row_parts.specs.Places.{nulls}
use Rattle.row_parts.proofs.places.nulls.Given as goal

abbrev pub invariant-loop : goal.invariant-loop
invariant-loop l = l.row.items ≡ nulls l.counter
