-- Kept keys that are right in a state.
use Rattle.std.specs.Prelude.{◌≡◌, ℕ, List, [], if◌then◌else◌}
use Rattle.std.specs.Option.{option_map_or}
use Rattle.row_store.specs.Rows.{Rows}
use Rattle.row_store.specs.declared.change.Change.{Change}
use Rattle.version_graph.specs.Sets.{Each}
use Rattle.version_graph.specs.Edges.{is_in}
use Rattle.version_model.specs.Kept.{latest_of}
use Rattle.version_model.specs.declared.numbered.Numbered.{Numbered}
use Rattle.table_keys.specs.Keys.{keys_by}
use Rattle.table_keys.specs.States.{KeysState}
use Rattle.table_keys.specs.declared.columns.KeyColumns.{KeyColumns}

-- these are the keys of their table
abbrev pub IsKeysOf : (ℕ → Rows) → Numbered KeysState → Type 0
IsKeysOf tables item = item.value.rows ≡ keys_by item.value.columns (tables item.number)

-- KEPT KEYS ARE RIGHT: each are the keys of their table
abbrev pub AreKeysOf : (ℕ → Rows) → List (Numbered KeysState) → Type 0
AreKeysOf tables items = Each (IsKeysOf tables) items

-- in whatever state the kept keys are right, these are the keys of this table
abbrev pub AreKeysAt : List (Numbered KeysState) → ℕ → KeyColumns → Rows → Type 0
AreKeysAt items table columns rows = (tables : ℕ → Rows) → AreKeysOf tables items → rows ≡ keys_by columns (tables table)

-- the last changes under a number
abbrev pub changes_of : List (Numbered (List Change)) → ℕ → List Change
changes_of made n = option_map_or (λ (cs : List Change). cs) (latest_of made n) []

-- of these tables, and none of others
abbrev pub changes_in : List ℕ → List (Numbered (List Change)) → ℕ → List Change
changes_in tables made n = if is_in n tables then changes_of made n else []
