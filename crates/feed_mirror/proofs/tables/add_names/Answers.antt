use Rattle.std.proofs.Common.{ap, ◌∙◌, take}
use Rattle.feed_mirror.specs.Tables.{named}
use Rattle.feed_mirror.proofs.KeptLemmas.{begins_with}
use Rattle.feed_mirror.proofs.RoomLemmas.{keeps_both, names_next}
use Rattle.feed_mirror.proofs.tables.add_names.Goals as goal

pub returns-in_err-add_name-clause-begins : goal.returns-in_err-add_name-clause-begins
returns-in_err-add_name-clause-begins c =
    let old = c.args.tables.now.items in
    let done = take c.loop-change.change-index c.args.changes.now in
    begins_with done old c.add_name.new.tables.items (ap named c.in_err-add_name.ensures.err ∙ c.loop-change.invariant.0)

pub loop-change-preserved : goal.loop-change-preserved
loop-change-preserved c =
    let old = c.args.tables.now.items in
    let mid = c.loop-change.tables.items in
    let new = c.add_name.new.tables.items in (
      names_next c.args.changes.now c.loop-change.change-index c.change-item.result old mid new c.loop-change-test.true c.change-item.is c.loop-change.invariant.0 c.in_ok-add_name.ensures.ok,
      keeps_both (take c.loop-change.change-index c.args.changes.now) old mid new c.loop-change.invariant.0 c.loop-change.invariant.1 c.in_ok-add_name.ensures.rooms,
    )

pub returns-clause-begins : goal.returns-clause-begins
returns-clause-begins c = begins_with (take c.loop-change.change-index c.args.changes.now) c.args.tables.now.items c.loop-change.tables.items c.loop-change.invariant.0
