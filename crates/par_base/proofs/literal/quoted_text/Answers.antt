use Rattle.par_base.proofs.LiteralLaws.{quoted_more}
use Rattle.par_base.proofs.literal.quoted_text.Goals as goal

pub loop-c-preserved : goal.loop-c-preserved
loop-c-preserved c = quoted_more c.loop-c.yielded _ _ c.in-Some.c c.loop-c.invariant c.in_ok-push_doubled.ensures
