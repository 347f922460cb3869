use Rattle.std.proofs.Common.{◌≡◌, ◌≤◌, length, take}
use Rattle.op_law.specs.Tables.{contents}
use Rattle.row_changes.specs.Changed.{changed_tables}
use Rattle.kept_changes.specs.inner.Calls.{Fit}
use Rattle.kept_changes.proofs.BackLemmas.{LeadsBackFrom}
use Rattle.kept_changes.specs.Room.{capacities, spares}
use Rattle.kept_changes.proofs.side.change_each.Given as goal

abbrev pub invariant-loop-at : goal.invariant-loop-at
invariant-loop-at l = record {
  within : l.at ≤ length l.changes.items;
  rows : changed_tables (contents l.tables.items) (take l.at l.changes.items) ≡ changed_tables (contents l.fn.tables.items) l.fn.changes.items;
  fit : Fit l.tables.items (take l.at l.changes.items);
  back : LeadsBackFrom l.at (contents l.fn.tables.items) l.tables.items l.changes.items;
  capacity : capacities (spares l.tables.items) (contents l.tables.items) ≡ capacities (spares l.fn.tables.items) (contents l.fn.tables.items);
}

abbrev pub decreases-loop-at : goal.decreases-loop-at
decreases-loop-at l = l.at
