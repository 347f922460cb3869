use Rattle.std.proofs.Common.{◌≡◌, ℕ, ◌≤◌, length, take, drop}
use Rattle.row_changes.specs.Changed.{changed}
use Rattle.version_graph.specs.Sets.{Distinct}
use Rattle.version_model.specs.Kept.{rows_at, numbers_in}
use Rattle.kept_changes.specs.Changes.{changes_at, AreOldAt}
use Rattle.kept_changes.specs.Room.{FitAt, capacity_at}
use Rattle.kept_changes.specs.Undo.{TablesLeadBack}
use Rattle.kept_changes.proofs.tables.change_tables.Given as goal

abbrev pub invariant-loop-at : goal.invariant-loop-at
invariant-loop-at l = record {
  within : l.at ≤ length l.left.items;
  distinct : Distinct (numbers_in l.left.items);
  rows : (n : ℕ) → changed (rows_at l.made.items n) (changes_at (take l.at l.left.items) n) ≡ changed (rows_at l.fn.tables n) (changes_at l.fn.changes n);
  old : AreOldAt l.made.items (take l.at l.left.items);
  room : FitAt l.made.items (take l.at l.left.items);
  back : TablesLeadBack l.fn.tables l.made.items (drop l.at l.left.items);
  capacity : (n : ℕ) → capacity_at l.made.items n ≡ capacity_at l.fn.tables n;
}

abbrev pub decreases-loop-at : goal.decreases-loop-at
decreases-loop-at l = l.at
