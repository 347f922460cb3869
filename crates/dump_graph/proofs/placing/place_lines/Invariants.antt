use Rattle.std.proofs.Common.{drop, take}
use Rattle.version_graph.specs.Edges.{Drawn}
use Rattle.op_any.specs.Operators.{AnyView}
use Rattle.dump_graph.specs.inner.Placing.{ArePlaced}
use Rattle.dump_graph.proofs.placing.place_lines.Given as goal

-- the lines so far are placed, and whatever graph all lines make, the others make it of this one
abbrev pub invariant-loop-line : goal.invariant-loop-line
invariant-loop-line l = record {
  placed : ArePlaced l.next l.fn.graph (take l.line-index l.lines) l.graph;
  others : (new : Drawn AnyView) → ArePlaced l.next l.fn.graph l.lines new → ArePlaced l.next l.graph (drop l.line-index l.lines) new;
}
