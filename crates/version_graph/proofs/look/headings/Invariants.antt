use Rattle.std.proofs.Common.{◌≡◌, take, filter_map}
use Rattle.version_graph.specs.Edges.{heading_of}
use Rattle.version_graph.specs.Kept.{edges_of}
use Rattle.version_graph.proofs.look.headings.Given as goal

abbrev pub invariant-loop-table : goal.invariant-loop-table
invariant-loop-table g l = l.made ≡ filter_map (heading_of (edges_of l.nodes)) (take l.table-index l.tables)
