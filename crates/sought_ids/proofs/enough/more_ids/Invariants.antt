use Rattle.op_seeks.specs.Found.{AreAmong}
use Rattle.sought_ids.proofs.enough.more_ids.Given as goal

abbrev pub invariant-loop-step : goal.invariant-loop-step
invariant-loop-step g l = AreAmong l.fn.ids l.more
