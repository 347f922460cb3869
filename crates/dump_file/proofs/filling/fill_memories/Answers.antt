use Rattle.std.proofs.Common.{◌≡◌, [], Some, None, map}
use Rattle.dump_values.specs.Dumps.{memories_seen}
use Rattle.dump_file.specs.Told.{memory_line}
use Rattle.dump_file.specs.inner.Filled.{filled}
use Rattle.dump_file.specs.inner.Loading.{is_told}
use Rattle.dump_file.proofs.KeptLemmas.{memories_filled, no_memories}
use Rattle.dump_file.proofs.filling.fill_memories.Goals as goal

pub returns-in-Some : goal.returns-in-Some
returns-in-Some c =
    let is : Some (map memory_line c.in-Some.memories) ≡ filled (is_told c.args.graph.now.edges) [] c.args.numbers.now (memories_seen c.args.lines) = rw c.in-Some.is at c.in_ok-memories.ensures in
    memories_filled c.args.graph.now.edges c.args.numbers.now (memories_seen c.args.lines) c.in-Some.memories is

pub returns-in-None : goal.returns-in-None
returns-in-None c =
    let none : None ≡ filled (is_told c.args.graph.now.edges) [] c.args.numbers.now (memories_seen c.args.lines) = rw c.in-None.is at c.in_ok-memories.ensures in
    λ made are. no_memories c.args.graph.now.edges c.args.numbers.now (memories_seen c.args.lines) made c.requires none are
