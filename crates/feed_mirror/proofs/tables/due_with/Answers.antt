use Rattle.std.proofs.Common.{arith}
use Rattle.feed_mirror.proofs.RoomLemmas.{total_next}
use Rattle.feed_mirror.proofs.tables.due_with.Goals as goal

pub loop-change-preserved : goal.loop-change-preserved
loop-change-preserved c =
    total_next c.args.changes.now c.loop-change.change-index c.change-item.result c.args.due c.loop-change.all c.in_ok-all.all c.loop-change-test.true c.change-item.is c.loop-change.invariant (omega (arith, c.in_ok-all.ensures, c.len.ensures))
