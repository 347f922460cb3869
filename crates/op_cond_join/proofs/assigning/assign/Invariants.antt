use Rattle.std.proofs.Common.{◌≡◌, ◌≤◌, take}
use Rattle.row_store.specs.inner.RowsLeft.{AreLeft, passed}
use Rattle.op_law.specs.Calls.{first_refused}
use Rattle.op_cond_join.specs.Joinings.{joining}
use Rattle.op_cond_join.specs.Assigned.{assigned, ending}
use Rattle.op_cond_join.specs.inner.Assignings.{assigning, AreBelowNext, Knows}
use Rattle.op_cond_join.proofs.assigning.assign.Given as goal

abbrev pub invariant-loop-row : goal.invariant-loop-row
invariant-loop-row l = record {
  left : AreLeft l.near.rows l.row-iterator;
  made : l.made ≡ assigned (joining l.join) l.old.rows.now.rows l.old.memory.now.entries (assigning l.fn.it l.fn.ids.next) (take (passed l.near.rows l.row-iterator) l.near.rows);
  state : assigning l.it l.ids.next ≡ ending (joining l.join) l.old.rows.now.rows l.old.memory.now.entries (assigning l.fn.it l.fn.ids.next) (take (passed l.near.rows l.row-iterator) l.near.rows);
  below : AreBelowNext (assigning l.it l.ids.next);
  within : l.ids.next ≤ first_refused l.fn.ids;
  rises : l.fn.ids.next ≤ l.ids.next;
  limit : l.ids.limit ≡ l.fn.ids.limit;
  knows : Knows l.it;
}
