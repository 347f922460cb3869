use Rattle.std.proofs.Common.{◌≡◌, take}
use Rattle.outer_law.specs.Placed.{full}
use Rattle.outer_entries.proofs.standing_rows.full.Given as goal

abbrev pub invariant-loop-entry : goal.invariant-loop-entry
invariant-loop-entry l = l.made ≡ full (take l.entry-index l.entries)
