use Rattle.std.proofs.Common.{◌≡◌, List, take}
use Rattle.version_graph.specs.Forest.{Crossing}
use Rattle.write_plans.specs.Trees.{AreTold, touched_of}
use Rattle.write_plans.proofs.tree.touched.Given as goal

abbrev pub invariant-loop-step : goal.invariant-loop-step
invariant-loop-step g l = (ps : List (Crossing _)) → AreTold l.graph.edges l.walk ps → l.made ≡ touched_of l.tables (take l.step-index ps)
