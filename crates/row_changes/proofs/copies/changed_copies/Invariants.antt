use Rattle.std.proofs.Common.{◌≡◌, take}
use Rattle.op_law.specs.Tables.{contents}
use Rattle.row_changes.specs.Changed.{changed_tables}
use Rattle.row_changes.proofs.copies.changed_copies.Given as goal

abbrev pub invariant-loop-which : goal.invariant-loop-which
invariant-loop-which l = contents l.made ≡ changed_tables (contents (take l.which l.tables)) (take l.which l.changes)
