use Rattle.std.proofs.Common.{◌≡◌, map, take}
use mathlib.Core.List.{reverse}
use Rattle.serde_json.specs.View.{view}
use Rattle.dump_values.specs.Lines.{operator_json}
use Rattle.dump_graph.specs.Told.{operator_line}
use Rattle.dump_file.proofs.writing.write_operators.Given as goal

abbrev pub invariant-loop-place : goal.invariant-loop-place
invariant-loop-place l = map view l.items.items ≡ map operator_json (map operator_line (take l.place (reverse l.graph.edges)))
