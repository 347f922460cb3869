use Rattle.std.proofs.Common.{take}
use Rattle.id_closing.specs.Found.{AreAmong}
use Rattle.cond_closing.specs.Matching.{FindsMatchesAt}
use Rattle.cond_closing.specs.Shown.{EachOf}
use Rattle.cond_closing.proofs.shown.add_all_at.Given as goal

abbrev pub invariant-loop-id : goal.invariant-loop-id
invariant-loop-id g l = record {
  at : EachOf (take l.id-index l.others) (FindsMatchesAt (g.M.Matching.joins l.matching) (g.M.Matching.knows l.matching) l.half l.ids);
  stay : AreAmong l.fn.ids l.ids;
}
