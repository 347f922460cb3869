use Rattle.std.proofs.Common.{◌≡◌, drop}
use Rattle.version_graph.specs.Placing.{top_of}
use Rattle.version_graph.proofs.place.top_of.Given as goal

abbrev pub invariant-loop-table : goal.invariant-loop-table
invariant-loop-table l = top_of l.top (drop l.table-index l.tables) ≡ top_of l.fn.number l.tables
