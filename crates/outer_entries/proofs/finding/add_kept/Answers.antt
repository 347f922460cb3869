use Rattle.outer_entries.specs.inner.Calls.{is_full_pair}
use Rattle.outer_entries.proofs.FindingLemmas.{adds_none, kept_next}
use Rattle.outer_entries.proofs.finding.add_kept.Goals as goal

pub loop-entry-init : goal.loop-entry-init
loop-entry-init g c = adds_none c.args.found.now

pub loop-entry-preserved : goal.loop-entry-preserved
loop-entry-preserved g c =
    kept_next (is_full_pair c.args.it.now) c.args.entries.now c.loop-entry.entry-index c.args.found.now c.loop-entry.found c.add_if_full.new.found c.loop-entry-test.true c.loop-entry.invariant c.in_ok-add_if_full.ensures
