use Rattle.std.proofs.Common.{◌≡◌}
use Rattle.op_key_join.specs.OtherPlaces.{others}
use Rattle.op_key_join.proofs.other_places.others.Given as goal

abbrev pub invariant-loop-place : goal.invariant-loop-place
invariant-loop-place l = l.made ≡ others l.places l.place
