use Rattle.op_seeks.specs.Found.{AreAmong}
use Rattle.sought_ids.proofs.closed.closed_over.Given as goal

abbrev pub invariant-loop-turn : goal.invariant-loop-turn
invariant-loop-turn g l = AreAmong l.fn.ids l.closed
