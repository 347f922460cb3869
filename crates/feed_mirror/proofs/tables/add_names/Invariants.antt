use Rattle.std.proofs.Common.{◌≡◌, take}
use Rattle.feed_mirror.specs.Tables.{named}
use Rattle.feed_mirror.specs.Padded.{with_names}
use Rattle.feed_mirror.specs.Rooms.{KeepsRooms}
use Rattle.feed_mirror.proofs.tables.add_names.Given as goal

abbrev pub invariant-loop-change : goal.invariant-loop-change
invariant-loop-change l = (named l.tables.items ≡ with_names (take l.change-index l.changes) (named l.fn.tables.items)) × KeepsRooms l.fn.tables.items l.tables.items
