use Rattle.std.proofs.Common.{◌≡◌, Some, ap, subst}
use Rattle.id_memory.specs.Pairs.{Pairs, pair_of}
use Rattle.id_memory.specs.Found.{IsLeastFrom}
use Rattle.id_memory.specs.States.{MemoryState}
use Rattle.id_memory.proofs.IndexLemmas.{least_second}
use Rattle.id_memory.proofs.pair_memory.PairMemory.least_of_second.Goals as goal

pub returns : goal.returns
returns c =
    subst (λ (m : Pairs). IsLeastFrom (λ other p. pair_of m p ≡ Some (other, c.args.t)) (0) c.first_with.result) (ap (λ (memory : MemoryState). memory.entries) c.self.view_is)
    (least_second c.self.inside.entries.entries c.self.inside.by_first.entries c.self.inside.by_second.entries c.self.invariant.0 c.args.t (0) c.first_with.result c.first_with.ensures)
