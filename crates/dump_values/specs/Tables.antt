-- Tables as JSON.
use Rattle.std.specs.Prelude.{ℕ, ◌+◌, nat_le, List, [], ◌∷◌, Option, Some, None, option_map, option_and_then, if◌then◌else◌}
use Rattle.row_store.specs.Rows.{Rows}
use Rattle.par_base.specs.declared.value.Value.{Value}
use Rattle.serde_json.specs.Data.{Data, Items, no_items, item}
use Rattle.serde_json.specs.Find.{as_array}
use Rattle.json_members.specs.Members.{array_of, list_json}
use Rattle.dump_values.specs.Values.{row_json, row_of}

-- a table: its rows
abbrev pub table_json : Rows → Data
table_json rows = list_json row_json rows

-- rows whose identifiers rise, from the least that may come
abbrev pub rows_from : ℕ → Items → Option Rows
rows_from least no_items = Some []
rows_from least (item d ds) = option_and_then (λ (r : ℕ × List Value). if nat_le least r.0 then option_map (λ rs. r ∷ rs) (rows_from (r.0 + 1) ds) else None) (row_of d)

abbrev pub table_of : Data → Option Rows
table_of d = option_and_then (rows_from 1) (as_array d)

-- tables, one after another
abbrev pub tables_json : List Rows → Data
tables_json ts = list_json table_json ts

abbrev pub tables_of : Data → Option (List Rows)
tables_of d = array_of table_of d
