use Rattle.std.proofs.Common.{◌≡◌, map, take}
use Rattle.changes_walk.specs.Changing.{latest_changes}
use Rattle.sought_ids.proofs.enough.side_of.Given as goal

abbrev pub invariant-loop-number : goal.invariant-loop-number
invariant-loop-number l = l.tables ≡ map (latest_changes l.made) (take l.number-index l.numbers)
