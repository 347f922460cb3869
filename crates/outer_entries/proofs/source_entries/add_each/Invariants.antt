use Rattle.std.proofs.Common.{◌≡◌, ◌++◌, filter, take}
use Rattle.pair_rows.specs.inner.Changed.{pairs_of}
use Rattle.outer_entries.specs.inner.Calls.{is_new_in}
use Rattle.outer_entries.proofs.source_entries.add_each.Given as goal

abbrev pub invariant-loop-b : goal.invariant-loop-b
invariant-loop-b l = l.made ≡ l.fn.made ++ filter (is_new_in l.it) (pairs_of l.a (take l.b-index l.seconds))
