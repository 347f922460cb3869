use Rattle.std.proofs.Common.{take}
use Rattle.id_closing.specs.Found.{AreAmong}
use Rattle.id_closing.proofs.found.add_all.Given as goal

abbrev pub invariant-loop-id : goal.invariant-loop-id
invariant-loop-id l = record {
  all : AreAmong (take l.id-index l.more) l.ids;
  stay : AreAmong l.fn.ids l.ids;
}
