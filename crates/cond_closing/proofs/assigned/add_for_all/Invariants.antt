use Rattle.std.proofs.Common.{take}
use Rattle.id_closing.specs.Found.{AreAmong}
use Rattle.id_closing.specs.Told.{AllOf}
use Rattle.cond_closing.specs.Assigned.{FindsAssigned}
use Rattle.cond_closing.proofs.assigned.add_for_all.Given as goal

abbrev pub invariant-loop-change : goal.invariant-loop-change
invariant-loop-change l = record {
  found : AllOf (FindsAssigned l.it l.ids) (take l.change-index l.changes);
  stay : AreAmong l.fn.ids l.ids;
}
