use Rattle.std.proofs.Common.{◌≡◌, ◌+◌, ◌≤◌, length, take}
use Rattle.pair_rows.proofs.memories.memory_of.Given as goal

abbrev pub invariant-loop-entry : goal.invariant-loop-entry
invariant-loop-entry l = record {
  entries : l.made.entries ≡ take l.entry-index l.entries;
  room : length l.entries ≤ l.made.room + l.entry-index;
}
