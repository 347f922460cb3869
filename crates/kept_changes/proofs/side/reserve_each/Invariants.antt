use Rattle.std.proofs.Common.{◌≡◌, take}
use Rattle.op_law.specs.Tables.{contents}
use Rattle.kept_changes.specs.Room.{HaveRoom, spares, AreAtLeast}
use Rattle.kept_changes.proofs.side.reserve_each.Given as goal

abbrev pub invariant-loop-at : goal.invariant-loop-at
invariant-loop-at l = record {
  room : HaveRoom (spares l.tables.items) (take l.at l.changes);
  same : contents l.tables.items ≡ contents l.fn.tables.items;
  grown : AreAtLeast (spares l.fn.tables.items) (spares l.tables.items);
}
