use Rattle.std.proofs.Common.{◌≡◌, List, vec_len, ℕ}
use Rattle.id_memory.specs.States.{MemoryState}
use Rattle.version_model.specs.declared.numbered.Numbered.{Numbered}
use Rattle.version_model.specs.Kept.{numbers_in}
use Rattle.kept_changes.specs.Undo.{MemoriesLeadBack, MemoriesUndoable}
use Rattle.kept_changes.specs.Room.{memory_capacity_at}
use Rattle.kept_changes.proofs.memories.undo_memories.Given as goal

abbrev pub invariant-loop-item : goal.invariant-loop-item
invariant-loop-item l = record {
  some : MemoriesUndoable l.made.items l.left.items;
  all : (before : List (Numbered MemoryState)) → MemoriesLeadBack before l.fn.memories l.fn.back → MemoriesLeadBack before l.made.items l.left.items;
  numbers : numbers_in l.made.items ≡ numbers_in l.fn.memories;
  capacity : (n : ℕ) → memory_capacity_at l.made.items n ≡ memory_capacity_at l.fn.memories n;
}

abbrev pub decreases-loop-item : goal.decreases-loop-item
decreases-loop-item l = vec_len l.left
