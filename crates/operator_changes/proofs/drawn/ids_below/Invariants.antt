use Rattle.std.proofs.Common.{◌≡◌, take}
use Rattle.operator_changes.specs.Footprint.{ids_under}
use Rattle.operator_changes.proofs.drawn.ids_below.Given as goal

abbrev pub invariant-loop-id : goal.invariant-loop-id
invariant-loop-id l = l.made ≡ ids_under l.n (take l.id-index l.ids)
