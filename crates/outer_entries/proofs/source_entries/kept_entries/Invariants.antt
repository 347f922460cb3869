use Rattle.std.proofs.Common.{◌≡◌, filter, take}
use Rattle.outer_entries.specs.inner.Calls.{is_entry_in}
use Rattle.outer_entries.proofs.source_entries.kept_entries.Given as goal

abbrev pub invariant-loop-entry : goal.invariant-loop-entry
invariant-loop-entry l = l.made ≡ filter (λ e. is_entry_in l.it e.1 e.2) (take l.entry-index l.entries)
