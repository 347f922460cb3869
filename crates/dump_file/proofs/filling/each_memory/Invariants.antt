use Rattle.std.specs.Prelude.{option_map}
use Rattle.std.proofs.Common.{◌≡◌, ◌++◌, [], drop, map}
use mathlib.Core.List.{reverse}
use Rattle.dump_values.specs.Dumps.{memories_seen}
use Rattle.dump_file.specs.Told.{memory_line}
use Rattle.dump_file.specs.inner.Filled.{filled}
use Rattle.dump_file.specs.inner.Loading.{is_told}
use Rattle.dump_file.proofs.filling.each_memory.Given as goal

-- the entries so far, and those that the other operators get
abbrev pub invariant-loop-number : goal.invariant-loop-number
invariant-loop-number l = filled (is_told l.graph.edges) [] l.numbers (memories_seen l.fn.lines)
    ≡ option_map (λ rest. map memory_line l.made ++ rest) (filled (is_told l.graph.edges) [] (drop l.number-index l.numbers) (memories_seen (reverse l.memories_left.items)))
