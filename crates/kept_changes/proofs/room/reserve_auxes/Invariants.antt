use Rattle.std.proofs.Common.{◌≡◌, ℕ, take}
use Rattle.version_model.specs.Kept.{auxes_at, numbers_in}
use Rattle.kept_changes.specs.Room.{SidesFitAt, capacities_at, AreAtLeast}
use Rattle.kept_changes.proofs.room.reserve_auxes.Given as goal

abbrev pub invariant-loop-item : goal.invariant-loop-item
invariant-loop-item l = record {
  room : SidesFitAt l.auxes.items (take l.item-index l.changes);
  same : (n : ℕ) → auxes_at l.auxes.items n ≡ auxes_at l.fn.auxes.items n;
  numbers : numbers_in l.auxes.items ≡ numbers_in l.fn.auxes.items;
  capacity : (n : ℕ) → AreAtLeast (capacities_at l.fn.auxes.items n) (capacities_at l.auxes.items n);
}
