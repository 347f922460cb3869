use Rattle.std.proofs.Common.{◌≡◌, ◌++◌, filter, nat_lt, take}
use Rattle.engine_sessions.proofs.counts.push_above.Given as goal

abbrev pub invariant-loop-count : goal.invariant-loop-count
invariant-loop-count l = l.made ≡ l.initial.made ++ filter (λ c. nat_lt l.table c.table) (take l.count-index l.counts)
