use Rattle.outer_entries.specs.inner.Calls.{is_new_in}
use Rattle.pair_rows.proofs.ShowingLemmas.{new_more}
use Rattle.outer_entries.proofs.source_entries.add_each.Goals as goal

pub loop-b-preserved : goal.loop-b-preserved
loop-b-preserved c =
    new_more (is_new_in c.args.it.now) c.args.made.now c.args.a c.args.seconds.now c.loop-b.b-index c.loop-b.made c.add_if_new.new.made
    c.loop-b-test.true c.loop-b.invariant c.in_ok-add_if_new.ensures
