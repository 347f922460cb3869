use Rattle.op_seeks.specs.Found.{AreAmong}
use Rattle.sought_ids.proofs.closed.close_all.Given as goal

abbrev pub invariant-loop-number : goal.invariant-loop-number
invariant-loop-number g l = AreAmong l.fn.ids l.closed
