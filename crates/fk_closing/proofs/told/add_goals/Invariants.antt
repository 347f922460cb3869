use Rattle.std.proofs.Common.{take}
use Rattle.id_closing.specs.Found.{AreAmong}
use Rattle.fk_closing.specs.Looking.{HasGoal}
use Rattle.id_closing.specs.Told.{AllOf, OfNew}
use Rattle.fk_closing.proofs.told.add_goals.Given as goal

abbrev pub invariant-loop-change : goal.invariant-loop-change
invariant-loop-change l = record {
  goals : AllOf (OfNew (HasGoal l.place l.ids)) (take l.change-index l.changes);
  stay : AreAmong l.fn.ids l.ids;
}
