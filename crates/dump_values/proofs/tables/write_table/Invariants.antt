use Rattle.std.proofs.Common.{◌≡◌, ◌++◌, map}
use Rattle.serde_json.specs.View.{view}
use Rattle.dump_values.specs.Values.{row_json}
use Rattle.dump_values.proofs.tables.write_table.Given as goal

abbrev pub invariant-loop-row : goal.invariant-loop-row
invariant-loop-row l = map view l.items.items ++ map row_json l.row-iterator ≡ map row_json l.table.rows
