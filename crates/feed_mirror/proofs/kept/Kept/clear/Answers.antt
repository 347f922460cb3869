use Rattle.feed_mirror.proofs.KeptLemmas.{kept_cleared}
use Rattle.feed_mirror.proofs.kept.Kept.clear.Goals as goal

pub invariant_of-self : goal.invariant_of-self
invariant_of-self c = let k = c.self.inside in let is = kept_cleared k.tables.items k.shown k.ready k.due c.self.invariant in rw (c.truncate.ensures.items, c.truncate-2.ensures) is
