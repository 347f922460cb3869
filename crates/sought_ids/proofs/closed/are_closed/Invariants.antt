use Rattle.std.proofs.Common.{take}
use Rattle.sought_ids.specs.Sought.{kept_in, ClosesAt}
use Rattle.sought_ids.proofs.closed.are_closed.Given as goal

abbrev pub invariant-loop-number : goal.invariant-loop-number
invariant-loop-number g l = ClosesAt g.O.Operator.meaning g.O.Seeks.seeks l.graph.edges (kept_in l.kept) (take l.number-index l.operators) l.ids
