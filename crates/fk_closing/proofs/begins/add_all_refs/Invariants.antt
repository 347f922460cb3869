use Rattle.std.proofs.Common.{take}
use Rattle.id_closing.specs.Found.{AreAmong}
use Rattle.fk_closing.specs.Looking.{HasRefs}
use Rattle.id_closing.specs.Told.{AllOf}
use Rattle.fk_closing.proofs.begins.add_all_refs.Given as goal

abbrev pub invariant-loop-change : goal.invariant-loop-change
invariant-loop-change l = record {
  refs : AllOf (λ c. HasRefs 0 l.keys.keys l.ids c.id) (take l.change-index l.changes);
  stay : AreAmong l.fn.ids l.ids;
}
