use Rattle.std.proofs.Common.{◌≡◌, ◌++◌, take}
use Rattle.outer_entries.proofs.source_entries.append.Given as goal

abbrev pub invariant-loop-entry : goal.invariant-loop-entry
invariant-loop-entry l = l.entries ≡ l.fn.entries ++ take l.entry-index l.more
