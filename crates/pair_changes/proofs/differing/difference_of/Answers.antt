use Rattle.pair_changes.specs.inner.Left.{all_left}
use Rattle.pair_changes.proofs.DifferLemmas.{at_last, carried, fewer_left}
use Rattle.pair_changes.proofs.differing.difference_of.Goals as goal

pub loop-id-smaller : goal.loop-id-smaller
loop-id-smaller c =
    fewer_left c.in-Some.id c.take_change.result.old c.take_change.result.new (all_left c.loop-id.before) (all_left c.loop-id.now) (all_left c.take_change.new.before) (all_left c.take_change.new.now)
    c.in-Some.ensures.there c.take_change.ensures.old c.take_change.ensures.new c.take_change.ensures.before c.take_change.ensures.now

pub loop-id-preserved : goal.loop-id-preserved
loop-id-preserved c =
    let going = c.loop-id.invariant.going in
    record {
      going = (
        _,
        carried c.args.old.now.entries c.args.new.now.entries c.loop-id.changes c.tell.new.changes going.0 c.in-Some.id c.take_change.result (all_left c.loop-id.before) (all_left c.loop-id.now) (all_left c.take_change.new.before) (all_left c.take_change.new.now)
            going.1 c.in-Some.ensures.there c.take_change.ensures.id c.take_change.ensures.old c.take_change.ensures.new c.take_change.ensures.before c.take_change.ensures.now c.in_ok-tell.ensures,
      );
      before_read = c.take_change.ensures.before_read;
      now_read = c.take_change.ensures.now_read;
    }

pub returns : goal.returns
returns c =
    let going = c.loop-id.invariant.going in
    at_last c.args.old.now.entries c.args.new.now.entries c.loop-id.changes going.0 (all_left c.loop-id.before) (all_left c.loop-id.now) going.1 c.in_default.ensures.none.0 c.in_default.ensures.none.1
