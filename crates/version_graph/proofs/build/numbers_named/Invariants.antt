use Rattle.std.proofs.Common.{◌≡◌, take}
use Rattle.version_graph.specs.Kept.{edges_of, numbers_named}
use Rattle.version_graph.proofs.build.numbers_named.Given as goal

abbrev pub invariant-loop-name : goal.invariant-loop-name
invariant-loop-name g l = l.made ≡ numbers_named (edges_of l.nodes) l.tables (take l.name-index l.names)
