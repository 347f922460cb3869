use Rattle.std.proofs.Common.{arith}
use Rattle.cond_closing.specs.Matching.{FindsMatchesAt}
use Rattle.cond_closing.proofs.ShownLemmas.{each_end, each_next, finds_at_among}
use Rattle.cond_closing.proofs.shown.add_all_at.Goals as goal

pub loop-id-preserved : goal.loop-id-preserved
loop-id-preserved g c =
    let inv = c.loop-id.invariant in
    let j = g.M.Matching.joins c.args.matching.now in
    let knows = g.M.Matching.knows c.args.matching.now in
    let old = c.loop-id.ids in
    let new = c.add_matches_at.new.ids in
    let one = c.in_ok-add_matches_at.ensures in
    record {
      at = each_next (FindsMatchesAt j knows c.args.half new) c.args.others.now c.loop-id.id-index c.loop-id-test.true (λ q h. finds_at_among old new one.stay j knows c.args.half q (inv.at q h)) one.matches;
      stay = λ q h. one.stay q (inv.stay q h);
    }

pub returns-clause-at : goal.returns-clause-at
returns-clause-at g c =
    each_end (FindsMatchesAt (g.M.Matching.joins c.args.matching.now) (g.M.Matching.knows c.args.matching.now) c.args.half c.loop-id.ids) c.args.others.now c.loop-id.id-index (omega (arith, c.loop-id-test.false)) c.loop-id.invariant.at
