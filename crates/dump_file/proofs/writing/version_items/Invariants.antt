use Rattle.std.proofs.Common.{◌≡◌, map, take}
use Rattle.serde_json.specs.View.{view}
use Rattle.dump_values.specs.Lines.{version_json}
use Rattle.dump_graph.specs.Graphs.{AreNames}
use Rattle.dump_graph.specs.Told.{version_line}
use Rattle.dump_file.proofs.writing.version_items.Given as goal

abbrev pub invariant-loop-place : goal.invariant-loop-place
invariant-loop-place l = record {
  items : map view l.items.items ≡ map version_json (map version_line (take l.place l.graph.versions));
  names : AreNames (take l.place l.graph.versions);
}
