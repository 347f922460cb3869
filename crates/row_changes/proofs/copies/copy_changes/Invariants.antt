use Rattle.std.proofs.Common.{◌≡◌, take}
use Rattle.row_changes.proofs.copies.copy_changes.Given as goal

abbrev pub invariant-loop-change : goal.invariant-loop-change
invariant-loop-change l = l.made ≡ take l.change-index l.changes
