-- What contracts see of a table's keys.
use Rattle.std.specs.Prelude.{ℕ, ◌+◌, List, Option, Some, None}
use Rattle.row_store.specs.Rows.{Rows}
use Rattle.row_store.specs.Changes.{AreOld}
use Rattle.row_store.specs.declared.change.Change.{Change}
use Rattle.row_changes.specs.Changed.{changed}
use Rattle.table_keys.specs.declared.columns.KeyColumns.{KeyColumns}

-- the columns, the keys by identifier, and the changes that are ready
pub record KeysState : Type 0 where
  pub columns : KeyColumns
  pub rows : Rows
  pub pending : Option (List Change)

-- the old keys of the changes that are ready are these
abbrev pub ArePendingOld : Rows → Option (List Change) → Type 0
ArePendingOld rows None = Unit {0}
ArePendingOld rows (Some changes) = AreOld rows changes

-- the keys after the changes that are ready
abbrev pub pending_after : Rows → Option (List Change) → Rows
pending_after rows None = rows
pending_after rows (Some changes) = changed rows changes

-- the first identifier behind this one, or of all
abbrev pub behind : Option ℕ → ℕ
behind None = 0
behind (Some id) = id + 1
