use Rattle.std.proofs.Common.{◌≤◌}
use Rattle.id_memory.proofs.PairLemmas.{IsRun}
use Rattle.id_memory.proofs.pair_entries.count_of.Given as goal

abbrev pub invariant-loop-own : goal.invariant-loop-own
invariant-loop-own l = (l.count ≤ l.most) × IsRun l.a l.count l.pairs.entries l.own-iterator
