use Rattle.write_plans.proofs.AloneLemmas.{bare_more}
use Rattle.write_plans.proofs.alone.are_bare.Goals as goal

pub loop-number-preserved : goal.loop-number-preserved
loop-number-preserved c =
    bare_more c.args.kept.now c.args.numbers.now c.loop-number.number-index c.loop-number-test.true c.loop-number.invariant (c.is_bare.ensures c.if-not-is_bare.false)
