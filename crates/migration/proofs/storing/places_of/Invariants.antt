use Rattle.std.proofs.Common.{take}
use Rattle.migration.specs.Places.{ArePlaces}
use Rattle.migration.proofs.storing.places_of.Given as goal

abbrev pub invariant-loop-number : goal.invariant-loop-number
invariant-loop-number l = ArePlaces l.kept l.read (take l.number-index l.numbers) l.made
