use Rattle.std.proofs.Common.{take}
use Rattle.id_closing.specs.Found.{AreAmong}
use Rattle.id_closing.specs.Told.{AllOf, OfNew}
use Rattle.cond_closing.specs.Matching.{FindsMatches}
use Rattle.cond_closing.proofs.shown.add_all_new.Given as goal

abbrev pub invariant-loop-change : goal.invariant-loop-change
invariant-loop-change g l = record {
  news : AllOf (OfNew (FindsMatches (g.M.Matching.joins l.matching) (g.M.Matching.knows l.matching) l.half l.ids)) (take l.change-index l.changes);
  stay : AreAmong l.fn.ids l.ids;
}
