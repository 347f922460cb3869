-- What the dump of a graph tells.
use Rattle.std.specs.Prelude.{ℕ, List, map}
use mathlib.Core.List.{reverse}
use Rattle.bidel_text.specs.OperatorText.{operator_text}
use Rattle.version_graph.specs.Edges.{Drawn}
use Rattle.version_graph.specs.declared.parts.Placed.{Placed}
use Rattle.op_any.specs.Operators.{AnyView}
use Rattle.dump_values.specs.declared.lines.OperatorLine.{OperatorLine}
use Rattle.dump_values.specs.declared.lines.VersionLine.{VersionLine}
use Rattle.dump_values.specs.declared.dumps.GraphLines.{GraphLines}

-- an operator: its numbers, and its canonical text
abbrev pub operator_line : Placed AnyView → OperatorLine
operator_line e = record { number = e.number; parent = e.parent; targets = e.tables; text = operator_text e.edge.operator.text }

-- a version: its name and its working set
abbrev pub version_line : List ℕ × ℕ → VersionLine
version_line v = record { name = v.0; set = v.1 }

-- the operators in ascending order, the versions in order of creation, and the last numbers given
abbrev pub graph_told : Drawn AnyView → GraphLines
graph_told g = record {
  operators = map operator_line (reverse g.edges);
  versions = map version_line g.versions;
  last_operator = g.last_operator;
  last_table = g.last_table;
}
