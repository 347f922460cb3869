use Rattle.std.proofs.Common.{◌≡◌, take}
use Rattle.outer_entries.proofs.seconds.copy_ids.Given as goal

abbrev pub invariant-loop-id : goal.invariant-loop-id
invariant-loop-id l = l.made ≡ take l.id-index l.ids
