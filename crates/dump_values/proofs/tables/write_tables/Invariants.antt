use Rattle.std.proofs.Common.{◌≡◌, map, take}
use Rattle.row_store.specs.States.{TableState}
use Rattle.serde_json.specs.View.{view}
use Rattle.dump_values.specs.Tables.{table_json}
use Rattle.dump_values.proofs.tables.write_tables.Given as goal

abbrev pub invariant-loop-table : goal.invariant-loop-table
invariant-loop-table l = map view l.items.items ≡ map table_json (map (λ (t : TableState). t.rows) (take l.table-index l.tables))
