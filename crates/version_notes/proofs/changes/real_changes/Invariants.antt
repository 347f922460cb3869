use Rattle.std.proofs.Common.{◌≡◌, filter, take}
use Rattle.write_plans.specs.Told.{is_change}
use Rattle.version_notes.proofs.changes.real_changes.Given as goal

abbrev pub invariant-loop-change : goal.invariant-loop-change
invariant-loop-change l = l.made ≡ filter is_change (take l.change-index l.changes)
