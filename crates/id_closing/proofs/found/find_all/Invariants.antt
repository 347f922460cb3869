use Rattle.std.proofs.Common.{take}
use Rattle.id_closing.specs.Found.{AreAmong, FindsMore}
use Rattle.id_closing.proofs.found.find_all.Given as goal

abbrev pub invariant-loop-id : goal.invariant-loop-id
invariant-loop-id l = record {
  more : FindsMore l.fn.found l.fn.left l.found l.left;
  all : AreAmong (take l.id-index l.ids) l.found;
}
