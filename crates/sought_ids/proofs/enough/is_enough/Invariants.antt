use Rattle.std.proofs.Common.{take}
use Rattle.version_graph.specs.Sets.{Each}
use Rattle.sought_ids.specs.Sought.{kept_in, SeesOver, SeesStep}
use Rattle.sought_ids.proofs.enough.is_enough.Given as goal

abbrev pub invariant-loop-step : goal.invariant-loop-step
invariant-loop-step g l =
    Each (SeesStep l.graph.edges l.carried.operators.now (SeesOver g.O.Operator.meaning g.O.Seeks.seeks (kept_in l.carried.kept) l.carried.made.now l.ids)) (take l.step-index l.step-items)
