use Rattle.std.proofs.Common.{length, true, ap, arith}
use Rattle.id_memory.proofs.CountLemmas.{same_length}
use Rattle.id_memory.proofs.pair_memory.PairMemory.reserve.Goals as goal

pub returns-clause-ok : goal.returns-clause-ok
returns-clause-ok c =
    let it = c.self.invariant.0 in
    let first = same_length c.self.inside.by_first.entries c.self.inside.entries.entries (it.first_lists (λ x. true)) in
    let second = same_length c.self.inside.by_second.entries c.self.inside.entries.entries (it.second_lists (λ x. true)) in
    omega (arith, first, second, ap length c.reserve.ensures.same, ap length c.reserve-2.ensures.same, ap length c.reserve-3.ensures.same, c.in_ok-reserve.ensures.ok, c.in_ok-reserve-2.ensures.ok, c.in_ok-reserve-3.ensures.ok)
