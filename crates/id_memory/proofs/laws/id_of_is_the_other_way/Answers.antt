use Rattle.id_memory.proofs.IndexLemmas.{other_way}
use Rattle.id_memory.proofs.laws.id_of_is_the_other_way.Goals as goal

pub returns : goal.returns
returns c = other_way
