-- The keys of a table, and their changes.
use Rattle.std.specs.Prelude.{List, [], ◌∷◌, map, option_map}
use Rattle.par_base.specs.declared.value.Value.{Value}
use Rattle.row_store.specs.Rows.{Rows}
use Rattle.row_store.specs.declared.change.Change.{Change}
use Rattle.row_parts.specs.RowEdits.{value_at}
use Rattle.table_keys.specs.declared.columns.KeyColumns.{KeyColumns}
use Rattle.table_keys.specs.declared.columns.KeyColumns.TheVariants.{All, One}

-- the key of a row: the row, or its value at a place
abbrev pub key_by : KeyColumns → List Value → List Value
key_by All row = row
key_by (One place) row = value_at place row ∷ []

-- the keys of a table, by identifier
abbrev pub keys_by : KeyColumns → Rows → Rows
keys_by columns rows = map (λ r. (r.0, key_by columns r.1)) rows

-- the change of a key, of the change of its row
abbrev pub keyed_change : KeyColumns → Change → Change
keyed_change columns c = record { id = c.id; old = option_map (key_by columns) c.old; new = option_map (key_by columns) c.new }

abbrev pub keyed_changes : KeyColumns → List Change → List Change
keyed_changes columns changes = map (keyed_change columns) changes
