use Rattle.std.proofs.Common.{◌≡◌, ℕ, take, ◌≤◌}
use Rattle.version_model.specs.Kept.{rows_at, numbers_in}
use Rattle.kept_changes.specs.Room.{FitAt, capacity_at}
use Rattle.kept_changes.proofs.room.reserve_tables.Given as goal

abbrev pub invariant-loop-item : goal.invariant-loop-item
invariant-loop-item l = record {
  room : FitAt l.tables.items (take l.item-index l.changes);
  same : (n : ℕ) → rows_at l.tables.items n ≡ rows_at l.fn.tables.items n;
  numbers : numbers_in l.tables.items ≡ numbers_in l.fn.tables.items;
  capacity : (n : ℕ) → capacity_at l.fn.tables.items n ≤ capacity_at l.tables.items n;
}
