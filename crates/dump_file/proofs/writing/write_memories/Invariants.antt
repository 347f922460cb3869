use Rattle.std.proofs.Common.{◌≡◌, map, take}
use Rattle.serde_json.specs.View.{view}
use Rattle.dump_values.specs.Lines.{memory_json}
use Rattle.dump_file.specs.Told.{memories_told}
use Rattle.dump_file.proofs.writing.write_memories.Given as goal

abbrev pub invariant-loop-item : goal.invariant-loop-item
invariant-loop-item l = map view l.items.items ≡ map memory_json (memories_told l.graph.edges (take l.item-index l.memories))
