use Rattle.std.proofs.Common.{ap, subst}
use Rattle.id_memory.specs.Pairs.{IsOneToOne, RiseFrom}
use Rattle.id_memory.specs.States.{MemoryState}
use Rattle.id_memory.proofs.IdLemmas.{rises}
use Rattle.id_memory.proofs.IndexLemmas.{one_to_one}
use Rattle.id_memory.proofs.pair_memory.PairMemory.iter.Goals as goal

pub returns-clause-rise : goal.returns-clause-rise
returns-clause-rise c = subst (RiseFrom 0) (ap (λ (memory : MemoryState). memory.entries) c.self.view_is) (rises c.self.inside.entries.entries c.self.invariant.0.rises)

pub returns-clause-one : goal.returns-clause-one
returns-clause-one c =
    subst IsOneToOne (ap (λ (memory : MemoryState). memory.entries) c.self.view_is)
    (one_to_one c.self.inside.entries.entries c.self.inside.by_first.entries c.self.inside.by_second.entries c.self.invariant.0)
