use Rattle.std.proofs.Common.{◌≡◌, ℕ, take, ◌≤◌}
use Rattle.version_model.specs.Kept.{pairs_at, numbers_in}
use Rattle.kept_changes.specs.Room.{MemoriesFitAt, memory_capacity_at}
use Rattle.kept_changes.proofs.room.reserve_memories.Given as goal

abbrev pub invariant-loop-item : goal.invariant-loop-item
invariant-loop-item l = record {
  room : MemoriesFitAt l.memories.items (take l.item-index l.changes);
  same : (n : ℕ) → pairs_at l.memories.items n ≡ pairs_at l.fn.memories.items n;
  numbers : numbers_in l.memories.items ≡ numbers_in l.fn.memories.items;
  capacity : (n : ℕ) → memory_capacity_at l.fn.memories.items n ≤ memory_capacity_at l.memories.items n;
}
