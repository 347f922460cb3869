use Rattle.std.proofs.Common.{◌≡◌, ◌+◌, take}
use Rattle.feed_mirror.specs.Rooms.{total}
use Rattle.feed_mirror.proofs.tables.due_with.Given as goal

abbrev pub invariant-loop-change : goal.invariant-loop-change
invariant-loop-change l = l.all ≡ l.due + total (take l.change-index l.changes)
