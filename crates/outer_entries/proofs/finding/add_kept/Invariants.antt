use Rattle.std.proofs.Common.{filter, take}
use Rattle.outer_entries.specs.inner.Calls.{is_full_pair}
use Rattle.outer_entries.specs.inner.Finding.{pairs_in, AddsPairs}
use Rattle.outer_entries.proofs.finding.add_kept.Given as goal

abbrev pub invariant-loop-entry : goal.invariant-loop-entry
invariant-loop-entry g l = AddsPairs l.fn.found (filter (is_full_pair l.it) (pairs_in (take l.entry-index l.entries))) l.found
