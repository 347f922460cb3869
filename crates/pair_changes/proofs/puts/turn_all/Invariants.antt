use Rattle.pair_changes.proofs.TurnLemmas.{AreTurned}
use Rattle.pair_changes.proofs.puts.turn_all.Given as goal

abbrev pub invariant-loop-change : goal.invariant-loop-change
invariant-loop-change l = AreTurned l.change-index l.fn.changes l.changes
