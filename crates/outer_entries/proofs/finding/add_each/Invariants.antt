use Rattle.std.proofs.Common.{filter, take}
use Rattle.pair_rows.specs.inner.Changed.{pairs_of}
use Rattle.outer_entries.specs.inner.Calls.{is_new_full}
use Rattle.outer_entries.specs.inner.Finding.{AddsPairs}
use Rattle.outer_entries.proofs.finding.add_each.Given as goal

abbrev pub invariant-loop-b : goal.invariant-loop-b
invariant-loop-b g l = AddsPairs l.fn.found (filter (is_new_full l.it) (pairs_of l.a (take l.b-index l.seconds))) l.found
