use Rattle.id_memory.proofs.IdLemmas.{one_memory}
use Rattle.id_memory.proofs.laws.pairs_are_the_memory.Goals as goal

pub returns : goal.returns
returns c = one_memory
