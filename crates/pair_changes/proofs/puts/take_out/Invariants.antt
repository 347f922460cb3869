use Rattle.std.proofs.Common.{◌≡◌, ℕ, ◌+◌, ◌≤◌, length, drop}
use Rattle.id_memory.specs.Pairs.{RiseFrom, pair_of}
use Rattle.pair_changes.specs.Undo.{takes}
use Rattle.pair_changes.specs.inner.Calls.{pair_without}
use Rattle.pair_changes.proofs.puts.take_out.Given as goal

abbrev pub invariant-loop-at : goal.invariant-loop-at
invariant-loop-at l = record {
  within : l.at ≤ length l.changes;
  rise : RiseFrom 0 l.memory.entries;
  pairs : (id : ℕ) → pair_of l.memory.entries id ≡ pair_without (drop l.at l.changes) id (pair_of l.fn.memory.entries id);
  room : l.memory.room ≡ l.fn.memory.room + takes (drop l.at l.changes);
  capacity : l.memory.room + length l.memory.entries ≡ l.fn.memory.room + length l.fn.memory.entries;
}

abbrev pub decreases-loop-at : goal.decreases-loop-at
decreases-loop-at l = l.at
