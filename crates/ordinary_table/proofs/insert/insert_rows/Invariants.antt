use Rattle.std.proofs.Common.{◌≡◌, take}
use Rattle.ordinary_table.specs.inner.Told.{added_changes}
use Rattle.ordinary_table.proofs.insert.insert_rows.Given as goal

abbrev pub invariant-loop-at : goal.invariant-loop-at
invariant-loop-at l = l.made ≡ added_changes l.next (take l.at l.rows)
