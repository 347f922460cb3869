use Rattle.std.proofs.Common.{refl}
use Rattle.id_sets.specs.IdPairs.{holds_pair}
use Rattle.id_sets.proofs.pair_set.PairSet.new.Goals as goal

pub returns : goal.returns
unfolding holds_pair
returns c = λ a b. rw c.new.ensures.empty refl
