use Rattle.std.proofs.Common.{◌≡◌, length, vec_len, subst, sym, arith, rules}
use Rattle.key_index.specs.inner.Entries.{HaveOneEach}
use Rattle.key_index.proofs.PassLemmas.{most_ready}
use Rattle.key_index.proofs.index.KeyIndex.reserve.Goals as goal

pub invariant_of-self-2 : goal.invariant_of-self-2
invariant_of-self-2 c =
    let len : vec_len c.in_ok-ready.ready ≡ length c.in_ok-ready.ready.items = search rules in
    (subst HaveOneEach (sym c.reserve.ensures.same) c.self.invariant.0, omega (arith, c.in_ok-reserve.ensures.ok, most_ready c.in_ok-ready.ready.items, c.len.ensures, len))
