use Rattle.std.proofs.Common.{◌≡◌, take}
use Rattle.op_law.specs.Identifiers.{has_id}
use Rattle.pair_parts.specs.Parts.{memory_only}
use Rattle.pair_parts.proofs.memory.memory_part.Given as goal

abbrev pub invariant-loop-at : goal.invariant-loop-at
invariant-loop-at l = l.made.entries ≡ memory_only (has_id (take l.at l.ids)) l.memory.entries
