-- Laws of graphs and the lines that tell of them.
use Rattle.std.specs.Prelude.{◌≡◌, ℕ}
use Rattle.version_graph.specs.Edges.{Drawn}
use Rattle.op_any.specs.Operators.{AnyView}
use Rattle.dump_values.specs.declared.dumps.GraphLines.{GraphLines}
use Rattle.dump_graph.specs.Graphs.{IsToldBy}

-- LINES TELL OF ONE GRAPH, whether or not it keeps the limits of graphs
abbrev pub ToldGraphsAreOne : Type 0
ToldGraphsAreOne =
    (next : ℕ) (lines : GraphLines) (g h : Drawn AnyView) → IsToldBy next lines g → IsToldBy next lines h → g ≡ h
