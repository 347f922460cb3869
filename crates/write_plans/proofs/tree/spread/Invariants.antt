use Rattle.std.proofs.Common.{List, take}
use Rattle.version_graph.specs.Forest.{Crossing}
use Rattle.write_plans.specs.Trees.{AreTold, Spreads}
use Rattle.write_plans.proofs.tree.spread.Given as goal

abbrev pub invariant-loop-step : goal.invariant-loop-step
invariant-loop-step g l = (ps : List (Crossing _)) → AreTold l.graph.edges l.walk ps → Spreads (take l.step-index ps) l.fn.tables l.tables l.more
