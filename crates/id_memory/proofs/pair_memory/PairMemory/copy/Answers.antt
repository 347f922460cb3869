use Rattle.std.proofs.Common.{List, length, true, ap, subst, sym, arith}
use Rattle.id_memory.specs.inner.Orders.{Triple}
use Rattle.id_memory.specs.inner.Indexed.{IsIndexed}
use Rattle.id_memory.proofs.CountLemmas.{same_length}
use Rattle.id_memory.proofs.pair_memory.PairMemory.copy.Goals as goal

pub invariant_of-result : goal.invariant_of-result
invariant_of-result c =
    let it = c.self.invariant.0 in
    let own = c.self.inside in
    let entries = c.in_ok-copied.ensures.same in
    let first = c.in_ok-copied-2.ensures.same in
    let second = c.in_ok-copied-3.ensures.same in
    let first_length = same_length own.by_first.entries own.entries.entries (it.first_lists (λ x. true)) in
    let second_length = same_length own.by_second.entries own.entries.entries (it.second_lists (λ x. true)) in (
      subst (λ (es : List Triple). IsIndexed es c.in_ok-copied-2.field-0.entries c.in_ok-copied-3.field-0.entries) (sym entries)
          (subst (λ (es : List Triple). IsIndexed own.entries.entries es c.in_ok-copied-3.field-0.entries) (sym first)
          (subst (λ (es : List Triple). IsIndexed own.entries.entries own.by_first.entries es) (sym second) it)),
      omega (arith, ap length entries, ap length first, ap length second, first_length, second_length, c.in_ok-copied.ensures.within, c.in_ok-copied-2.ensures.within, c.in_ok-copied-3.ensures.within),
    )
