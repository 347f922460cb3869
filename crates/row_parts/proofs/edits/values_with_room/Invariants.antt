use Rattle.std.proofs.Common.{◌≡◌, take}
use Rattle.row_parts.proofs.edits.values_with_room.Given as goal

abbrev pub invariant-loop-value : goal.invariant-loop-value
invariant-loop-value l = l.made.items ≡ take l.value-index l.values
