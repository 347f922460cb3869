use Rattle.std.proofs.Common.{◌≡◌, drop}
use Rattle.engine_statements.specs.Found.{unknown_in_row}
use Rattle.engine_statements.proofs.ids.unknown_id_in_row.Given as goal

abbrev pub invariant-loop-value : goal.invariant-loop-value
invariant-loop-value l = unknown_in_row l.next (drop l.value-index l.row) ≡ unknown_in_row l.next l.row
