use Rattle.std.proofs.Common.{◌≡◌, ◌≤◌, take}
use Rattle.row_store.specs.inner.RowsLeft.{AreLeft, passed}
use Rattle.op_law.specs.Calls.{first_refused}
use Rattle.outer_law.specs.Placed.{placed, ending}
use Rattle.outer_entries.specs.Showings.{joining_of}
use Rattle.outer_entries.specs.Placings.{placing_of, IsReady}
use Rattle.outer_entries.proofs.placing.place.Given as goal

abbrev pub invariant-loop-row : goal.invariant-loop-row
invariant-loop-row l = record {
  left : AreLeft l.near.rows l.row-iterator;
  made : l.made ≡ placed (joining_of l.join) l.old.rows.now.rows l.old.memory.now.entries (placing_of l.fn.it l.fn.ids.next) (take (passed l.near.rows l.row-iterator) l.near.rows);
  state : placing_of l.it l.ids.next ≡ ending (joining_of l.join) l.old.rows.now.rows l.old.memory.now.entries (placing_of l.fn.it l.fn.ids.next) (take (passed l.near.rows l.row-iterator) l.near.rows);
  ready : IsReady l.it l.ids.next;
  within : l.ids.next ≤ first_refused l.fn.ids;
  rises : l.fn.ids.next ≤ l.ids.next;
  limit : l.ids.limit ≡ l.fn.ids.limit;
}
