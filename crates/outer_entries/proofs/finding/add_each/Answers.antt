use Rattle.outer_entries.specs.inner.Calls.{is_new_full}
use Rattle.outer_entries.proofs.FindingLemmas.{adds_none, each_next}
use Rattle.outer_entries.proofs.finding.add_each.Goals as goal

pub loop-b-init : goal.loop-b-init
loop-b-init g c = adds_none c.args.found.now

pub loop-b-preserved : goal.loop-b-preserved
loop-b-preserved g c =
    each_next (is_new_full c.args.it.now) c.args.a c.args.seconds.now c.loop-b.b-index c.args.found.now c.loop-b.found c.add_if_new.new.found c.loop-b-test.true c.loop-b.invariant c.in_ok-add_if_new.ensures
