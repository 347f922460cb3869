use Rattle.std.proofs.Common.{length, ap, arith}
use Rattle.row_changes.proofs.ChangedLaws.{changed_is}
use Rattle.feed_mirror.proofs.RoomLemmas.{changed_len}
use Rattle.feed_mirror.proofs.telling.change_table.Goals as goal

pub returns-clause-rows : goal.returns-clause-rows
returns-clause-rows c = changed_is c.args.table.now.rows c.args.changes.now c.apply.new.self.rows c.apply.ensures.applied.rises c.apply.ensures.applied.changed

pub returns-clause-room : goal.returns-clause-room
returns-clause-room c =
    let rows = c.args.table.now.rows in
    let cs = c.args.changes.now in
    let is = ap length (changed_is rows cs c.apply.new.self.rows c.apply.ensures.applied.rises c.apply.ensures.applied.changed) in
    let most = changed_len rows cs in
    omega (arith, c.apply.ensures.room, is, most)
