use Rattle.std.proofs.Common.{◌≡◌, ℕ, ◌+◌, ◌≤◌, length, drop}
use Rattle.id_memory.specs.Pairs.{Pairs, RiseFrom, pair_of}
use Rattle.pair_changes.specs.MemoryChanges.{pair_after}
use Rattle.pair_changes.specs.Undo.{puts}
use Rattle.pair_changes.specs.inner.Calls.{CanBePut, ChangesRise}
use Rattle.pair_changes.proofs.puts.put_in.Given as goal

abbrev pub invariant-loop-change : goal.invariant-loop-change
invariant-loop-change l = record {
  entries : RiseFrom 0 l.memory.entries;
  can : (now : Pairs) × CanBePut l.memory.entries (drop l.change-index l.changes) now;
  rise : (n : ℕ) × ChangesRise n (drop l.change-index l.changes);
  pairs : (id : ℕ) → pair_after (drop l.change-index l.changes) id (pair_of l.memory.entries id) ≡ pair_after l.changes id (pair_of l.fn.memory.entries id);
  room : puts (drop l.change-index l.changes) ≤ l.memory.room;
  rooms : l.memory.room + puts l.changes ≡ l.fn.memory.room + puts (drop l.change-index l.changes);
  capacity : l.memory.room + length l.memory.entries ≡ l.fn.memory.room + length l.fn.memory.entries;
}
