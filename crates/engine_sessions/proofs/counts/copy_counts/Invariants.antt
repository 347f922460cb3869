use Rattle.std.proofs.Common.{◌≡◌, take}
use Rattle.engine_sessions.proofs.counts.copy_counts.Given as goal

abbrev pub invariant-loop-count : goal.invariant-loop-count
invariant-loop-count l = l.made ≡ take l.count-index l.counts
