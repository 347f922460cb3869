use Rattle.std.proofs.Common.{take}
use Rattle.id_closing.specs.Found.{AreAmong}
use Rattle.id_closing.specs.Told.{AllOf}
use Rattle.outer_closing.specs.Assigned.{FindsChanged}
use Rattle.outer_closing.proofs.placed.add_for_all.Given as goal

abbrev pub invariant-loop-change : goal.invariant-loop-change
invariant-loop-change l = record {
  found : AllOf (FindsChanged l.it.values.now l.it.replaced.now l.ids) (take l.change-index l.changes);
  stay : AreAmong l.fn.ids l.ids;
}
