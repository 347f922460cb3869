use Rattle.std.proofs.Common.{drop, take}
use Rattle.version_graph.specs.Edges.{Drawn}
use Rattle.op_any.specs.Operators.{AnyView}
use Rattle.dump_graph.specs.inner.Naming.{AreNamed}
use Rattle.dump_graph.proofs.naming.name_lines.Given as goal

-- the lines so far are named, and whatever graph all lines make, the others make it of this one
abbrev pub invariant-loop-line : goal.invariant-loop-line
invariant-loop-line l = record {
  named : AreNamed l.fn.graph (take l.line-index l.lines) l.graph;
  others : (new : Drawn AnyView) → AreNamed l.fn.graph l.lines new → AreNamed l.graph (drop l.line-index l.lines) new;
}
