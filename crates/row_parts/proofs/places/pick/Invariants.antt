use Rattle.std.proofs.Common.{◌≡◌, take}
use Rattle.row_parts.specs.Places.{pick}
use Rattle.row_parts.proofs.places.pick.Given as goal

abbrev pub invariant-loop-place : goal.invariant-loop-place
invariant-loop-place l = l.part.items ≡ pick (take l.place-index l.places) l.row
