use Rattle.std.proofs.Common.{vec_len, ◌≡◌}
use Rattle.op_law.specs.Tables.{Tables, contents}
use Rattle.kept_changes.specs.Room.{spares, capacities}
use Rattle.kept_changes.specs.Undo.{SideLeadsBack}
use Rattle.kept_changes.proofs.side.undo_each.Given as goal

abbrev pub invariant-loop-one : goal.invariant-loop-one
invariant-loop-one l = record {
  some : (before : Tables) × SideLeadsBack before (contents l.tables.items) (spares l.tables.items) l.left.items;
  all : (before : Tables) → SideLeadsBack before (contents l.fn.tables.items) (spares l.fn.tables.items) l.fn.back → SideLeadsBack before (contents l.tables.items) (spares l.tables.items) l.left.items;
  capacity : capacities (spares l.tables.items) (contents l.tables.items) ≡ capacities (spares l.fn.tables.items) (contents l.fn.tables.items);
}

abbrev pub decreases-loop-one : goal.decreases-loop-one
decreases-loop-one l = vec_len l.left
