use Rattle.std.proofs.Common.{take}
use Rattle.db_state.specs.Parts.{AreLocalAt}
use Rattle.db_state.proofs.local.are_local.Given as goal

abbrev pub invariant-loop-number : goal.invariant-loop-number
invariant-loop-number g l = AreLocalAt g.O.Operator.meaning l.graph.edges (take l.number-index l.operators)
