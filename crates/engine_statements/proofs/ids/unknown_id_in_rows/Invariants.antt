use Rattle.std.proofs.Common.{◌≡◌, drop}
use Rattle.engine_statements.specs.Found.{unknown_in_rows}
use Rattle.engine_statements.proofs.ids.unknown_id_in_rows.Given as goal

abbrev pub invariant-loop-row : goal.invariant-loop-row
invariant-loop-row l = unknown_in_rows l.next (drop l.row-index l.rows) ≡ unknown_in_rows l.next l.rows
