use Rattle.std.proofs.Common.{◌≡◌, length, take}
use Rattle.feed_mirror.specs.Tables.{named}
use Rattle.feed_mirror.specs.Rooms.{RoomsFor, RoomsGrow}
use Rattle.feed_mirror.proofs.tables.make_room.Given as goal

abbrev pub invariant-loop-at : goal.invariant-loop-at
invariant-loop-at l = (length l.tables.items ≡ length l.fn.tables.items) × (named l.tables.items ≡ named l.fn.tables.items) × RoomsGrow l.fn.tables.items l.tables.items × RoomsFor l.changes l.due (take l.at l.tables.items)
