use Rattle.std.proofs.Common.{◌≡◌, ◌++◌, ◌&&◌, not, filter, take}
use Rattle.pair_rows.specs.Shown.{has}
use Rattle.pair_rows.specs.inner.Changed.{pairs_of}
use Rattle.op_cond_join.specs.inner.Calls.{shows}
use Rattle.op_cond_join.proofs.showing.add_new_pairs.Given as goal

abbrev pub invariant-loop-b : goal.invariant-loop-b
invariant-loop-b g l = l.made ≡ l.fn.made ++ filter (λ x. shows l.it x.0 x.1 && not (has l.it.memory.now.entries x.0 x.1)) (pairs_of l.a (take l.b-index l.seconds))
