use Rattle.std.proofs.Common.{◌≡◌, ◌++◌}
use Rattle.pair_rows.proofs.memories.entries_of.Given as goal

abbrev pub invariant-loop-entry : goal.invariant-loop-entry
invariant-loop-entry l = l.made ++ l.entry-iterator ≡ l.memory.entries
