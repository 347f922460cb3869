use Rattle.std.proofs.Common.{◌≡◌, ℕ, ◌≤◌, length, take, drop}
use Rattle.pair_changes.specs.Changed.{changed_pairs}
use Rattle.version_graph.specs.Sets.{Distinct}
use Rattle.version_model.specs.Kept.{pairs_at, numbers_in}
use Rattle.kept_changes.specs.Changes.{pair_changes_at, AreMemoriesAt}
use Rattle.kept_changes.specs.Room.{MemoriesFitAt, memory_capacity_at}
use Rattle.kept_changes.specs.Undo.{MemoriesLeadBack}
use Rattle.kept_changes.proofs.memories.change_memories.Given as goal

abbrev pub invariant-loop-at : goal.invariant-loop-at
invariant-loop-at l = record {
  within : l.at ≤ length l.left.items;
  distinct : Distinct (numbers_in l.left.items);
  pairs : (n : ℕ) → changed_pairs (pairs_at l.made.items n) (pair_changes_at (take l.at l.left.items) n) ≡ changed_pairs (pairs_at l.fn.memories n) (pair_changes_at l.fn.changes n);
  old : AreMemoriesAt l.made.items (take l.at l.left.items);
  room : MemoriesFitAt l.made.items (take l.at l.left.items);
  back : MemoriesLeadBack l.fn.memories l.made.items (drop l.at l.left.items);
  capacity : (n : ℕ) → memory_capacity_at l.made.items n ≡ memory_capacity_at l.fn.memories n;
}

abbrev pub decreases-loop-at : goal.decreases-loop-at
decreases-loop-at l = l.at
