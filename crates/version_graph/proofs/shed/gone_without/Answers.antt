use Rattle.std.proofs.Common.{arith}
use Rattle.version_graph.proofs.ShedLemmas.{doom_done, doom_step}
use Rattle.version_graph.proofs.shed.gone_without.Goals as goal

pub loop-left-preserved : goal.loop-left-preserved
loop-left-preserved g c =
    let l = c.loop-left in
    let k = c.index-nodes-left.result in
    record {
      within = omega (arith, l.invariant.within);
      so_far = doom_step c.args.nodes.now l.left k c.loop-left-test.true l.invariant.within c.index-nodes-left.is l.needed.items c.judge.new.needed.items l.gone c.judge.new.gone _ l.invariant.so_far c.in_ok-judge.ensures.needed c.in_ok-judge.ensures.gone;
    }

pub returns : goal.returns
returns g c =
    let l = c.loop-left in
    doom_done c.args.nodes.now l.left l.needed.items l.gone _ (omega (arith, c.loop-left-test.false)) l.invariant.so_far
