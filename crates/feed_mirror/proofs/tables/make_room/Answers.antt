use Rattle.std.proofs.Common.{◌∙◌, arith}
use Rattle.feed_mirror.proofs.RoomLemmas.{set_for, set_grows, set_named}
use Rattle.feed_mirror.proofs.PlaceLemmas.{get_there, set_length}
use Rattle.feed_mirror.proofs.tables.make_room.Goals as goal

pub returns-in_err-room_in-clause-same : goal.returns-in_err-room_in-clause-same
returns-in_err-room_in-clause-same c =
    let ts = c.loop-at.tables.items in
    let x = c.index_mut.result.now in
    set_named ts c.loop-at.at x c.room_in.new.own (get_there ts c.loop-at.at x (omega (arith, c.loop-at-test.true)) c.index_mut.ensures.value) c.in_err-room_in.ensures.same ∙ c.loop-at.invariant.1

pub returns-in_err-room_in-clause-more : goal.returns-in_err-room_in-clause-more
returns-in_err-room_in-clause-more c =
    let ts = c.loop-at.tables.items in
    let x = c.index_mut.result.now in
    λ cs rooms. set_grows ts c.loop-at.at x c.room_in.new.own cs (get_there ts c.loop-at.at x (omega (arith, c.loop-at-test.true)) c.index_mut.ensures.value) c.in_err-room_in.ensures.same c.in_err-room_in.ensures.more (c.loop-at.invariant.2 cs rooms)

pub loop-at-preserved : goal.loop-at-preserved
loop-at-preserved c =
    let ts = c.loop-at.tables.items in
    let x = c.index_mut.result.now in
    let y = c.room_in.new.own in
    let there = get_there ts c.loop-at.at x (omega (arith, c.loop-at-test.true)) c.index_mut.ensures.value in (
      set_length ts c.loop-at.at y ∙ c.loop-at.invariant.0,
      set_named ts c.loop-at.at x y there c.in_ok-room_in.ensures.same ∙ c.loop-at.invariant.1,
      (λ cs rooms. set_grows ts c.loop-at.at x y cs there c.in_ok-room_in.ensures.same c.in_ok-room_in.ensures.more (c.loop-at.invariant.2 cs rooms)),
      set_for c.args.changes.now c.args.due ts c.loop-at.at x y there c.in_ok-room_in.ensures.ok c.loop-at.invariant.3,
    )
