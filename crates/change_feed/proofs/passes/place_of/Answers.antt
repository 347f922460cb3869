use Rattle.std.proofs.Common.{◌≡◌, subst}
use Rattle.change_feed.proofs.LiveLemmas.{none_more}
use Rattle.change_feed.proofs.passes.place_of.Goals as goal

pub loop-at-preserved : goal.loop-at-preserved
loop-at-preserved c = none_more c.args.number c.args.taken.now c.loop-at.at c.index-taken-at.result c.loop-at.invariant c.loop-at-test.true c.index-taken-at.is (λ e. c.if-taken-at.false (subst (λ t. t.number ≡ c.args.number) c.index-taken-at.is e))
