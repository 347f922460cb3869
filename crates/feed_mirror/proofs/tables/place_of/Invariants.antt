use Rattle.std.proofs.Common.{◌≡◌, false, take}
use Rattle.feed_mirror.specs.Padded.{has_name}
use Rattle.feed_mirror.specs.Tables.{named}
use Rattle.feed_mirror.proofs.tables.place_of.Given as goal

abbrev pub invariant-loop-at : goal.invariant-loop-at
invariant-loop-at l = has_name l.name (named (take l.at l.tables)) ≡ false
