use Rattle.std.proofs.Common.{◌≡◌, drop}
use Rattle.version_graph.proofs.LookLemmas.{found}
use Rattle.version_graph.proofs.look.heading_in.Given as goal

abbrev pub invariant-loop-at : goal.invariant-loop-at
invariant-loop-at g l =
    found l.table (drop l.at l.placed.tables) (drop l.at l.placed.edge.targets) ≡ found l.table l.placed.tables l.placed.edge.targets
