use Rattle.std.proofs.Common.{◌≡◌, ℕ, ◌≤◌, length, take, drop}
use Rattle.row_changes.specs.Changed.{changed_tables}
use Rattle.version_graph.specs.Sets.{Distinct}
use Rattle.version_model.specs.Kept.{auxes_at, numbers_in}
use Rattle.kept_changes.specs.Changes.{sides_at, AreSidesAt}
use Rattle.kept_changes.specs.Room.{SidesFitAt, capacities_at}
use Rattle.kept_changes.specs.Undo.{AuxesLeadBack}
use Rattle.kept_changes.proofs.auxes.change_auxes.Given as goal

abbrev pub invariant-loop-at : goal.invariant-loop-at
invariant-loop-at l = record {
  within : l.at ≤ length l.left.items;
  distinct : Distinct (numbers_in l.left.items);
  rows : (n : ℕ) → changed_tables (auxes_at l.made.items n) (sides_at (take l.at l.left.items) n) ≡ changed_tables (auxes_at l.fn.auxes n) (sides_at l.fn.changes n);
  old : AreSidesAt l.made.items (take l.at l.left.items);
  room : SidesFitAt l.made.items (take l.at l.left.items);
  back : AuxesLeadBack l.fn.auxes l.made.items (drop l.at l.left.items);
  capacity : (n : ℕ) → capacities_at l.made.items n ≡ capacities_at l.fn.auxes n;
}

abbrev pub decreases-loop-at : goal.decreases-loop-at
decreases-loop-at l = l.at
