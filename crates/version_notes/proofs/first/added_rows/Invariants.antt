use Rattle.std.proofs.Common.{◌≡◌, ◌++◌}
use Rattle.version_notes.specs.First.{added}
use Rattle.version_notes.proofs.first.added_rows.Given as goal

abbrev pub invariant-loop-row : goal.invariant-loop-row
invariant-loop-row l = l.changes ++ added l.row-iterator ≡ added l.table.rows
