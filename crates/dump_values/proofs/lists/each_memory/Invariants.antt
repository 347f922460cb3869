use Rattle.std.specs.Prelude.{option_map}
use Rattle.std.proofs.Common.{◌≡◌, ◌++◌, drop, length}
use Rattle.json_members.specs.Trees.{trees_view}
use Rattle.dump_values.specs.Dumps.{memories_seen}
use Rattle.dump_values.specs.Lines.{memory_of}
use Rattle.json_members.specs.Members.{list_of}
use Rattle.dump_values.proofs.lists.each_memory.Given as goal

abbrev pub invariant-loop-item : goal.invariant-loop-item
invariant-loop-item l = list_of memory_of (trees_view l.fn.items.items) ≡ option_map (λ ls. memories_seen l.lines ++ ls) (list_of memory_of (trees_view (drop (length l.yielded) l.fn.items.items)))
