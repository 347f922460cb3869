use Rattle.std.proofs.Common.{◌≡◌, take}
use Rattle.op_law.specs.Identifiers.{has_id}
use Rattle.op_law.specs.Local.{rows_only}
use Rattle.db_state.proofs.sight.copy_rows_of.Given as goal

abbrev pub invariant-loop-id : goal.invariant-loop-id
invariant-loop-id l = l.made.rows ≡ rows_only (has_id (take l.id-index l.ids)) l.table.rows
