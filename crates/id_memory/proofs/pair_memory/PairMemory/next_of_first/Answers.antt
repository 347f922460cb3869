use Rattle.std.proofs.Common.{◌≡◌, ◌+◌, Some, ap, subst}
use Rattle.id_memory.specs.Pairs.{Pairs, pair_of}
use Rattle.id_memory.specs.Found.{IsLeastFrom}
use Rattle.id_memory.specs.States.{MemoryState}
use Rattle.id_memory.proofs.IndexLemmas.{least_first}
use Rattle.id_memory.proofs.pair_memory.PairMemory.next_of_first.Goals as goal

pub returns : goal.returns
returns c =
    subst (λ (m : Pairs). IsLeastFrom (λ other p. pair_of m p ≡ Some (c.args.s, other)) (c.args.after + 1) c.first_with.result) (ap (λ (memory : MemoryState). memory.entries) c.self.view_is)
    (least_first c.self.inside.entries.entries c.self.inside.by_first.entries c.self.inside.by_second.entries c.self.invariant.0 c.args.s (c.args.after + 1) c.first_with.result c.first_with.ensures)
