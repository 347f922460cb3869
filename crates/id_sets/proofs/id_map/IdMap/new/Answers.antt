use Rattle.std.proofs.Common.{refl}
use Rattle.id_sets.specs.IdNumbers.{number_of_id}
use Rattle.id_sets.proofs.id_map.IdMap.new.Goals as goal

pub returns : goal.returns
unfolding number_of_id
returns c = λ id. rw c.new.ensures.empty refl
