use Rattle.std.proofs.Common.{◌≡◌, drop}
use Rattle.row_parts.specs.Places.{has_place}
use Rattle.op_key_join.proofs.other_places.has_place.Given as goal

abbrev pub invariant-loop-listed : goal.invariant-loop-listed
invariant-loop-listed l = has_place (drop l.listed-index l.places) l.place ≡ has_place l.places l.place
