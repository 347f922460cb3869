use Rattle.std.proofs.Common.{arith}
use Rattle.op_rows.proofs.MergeLemmas.{below_more}
use Rattle.op_rows.proofs.ids.add_below.Goals as goal

pub loop-all-preserved : goal.loop-all-preserved
loop-all-preserved c =
    let below = c.is_below.ensures.below c.loop-all-test.true in (
      omega (arith, below.0),
      below_more c.args.ids.now c.args.all.now c.loop-all.all c.push.new.self c.args.from c.loop-all.to c.args.id below.0 below.1 c.in_ok-push.ensures.ok c.loop-all.invariant.1,
    )
