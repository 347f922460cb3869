-- When table versions and names changed last.
use Rattle.std.specs.Prelude.{ℕ, max, ◌≤◌, ◌==◌, ◌&&◌, Bool, true, false, List, [], ◌∷◌, if◌then◌else◌}
use Rattle.std.specs.List.{find}
use Rattle.std.specs.Option.{option_map_or}
use Rattle.std.specs.Str.{bytes_eq}
use Rattle.par_base.specs.SameRows.{same_row}
use Rattle.row_store.specs.Rows.{Rows}
use Rattle.session_tx.specs.Calls.{next_number}
use Rattle.version_model.specs.Kept.{value_of}
use Rattle.version_model.specs.declared.numbered.Numbered.{Numbered}
use Rattle.tx_history.specs.declared.history.ChangeNumbers.{ChangeNumbers}
use Rattle.tx_history.specs.declared.history.NameDrop.{NameDrop}
use Rattle.tx_history.specs.declared.table_read.TableRead.{TableRead}

-- the accepted statements that change a table or the graph are numbered from 1
pub record History : Type 0 where
  -- the number of the last one: 0 where there was none
  pub last : ℕ
  -- of each table version, live or gone, the number of the last one that gave it other rows: 0 where none did
  pub changed : ℕ → ℕ
  -- of each name, the number of the last one that dropped a version of it, likewise
  pub dropped : List ℕ → ℕ

-- ---- how it is kept

-- the number under a table: 0 where none stands
abbrev pub number_in : List (Numbered ℕ) → ℕ → ℕ
number_in items t = option_map_or (λ (n : ℕ). n) (value_of items t) 0

-- the number of the last drop of a version with this name
abbrev pub dropped_in : List NameDrop → List ℕ → ℕ
dropped_in drops name = option_map_or (λ (d : NameDrop). d.at) (find (λ (d : NameDrop). bytes_eq name d.name) drops) 0

-- THE HISTORY that is kept
abbrev pub history_of : ChangeNumbers → History
history_of kept = record { last = kept.last; changed = λ t. number_in kept.changed t; dropped = λ name. dropped_in kept.dropped name }

-- no name was dropped later than the last number
abbrev pub DropsArePast : ChangeNumbers → Type 0
DropsArePast numbers = (name : List ℕ) → dropped_in numbers.dropped name ≤ numbers.last

-- nothing has happened
abbrev pub no_history : History
no_history = record { last = 0; changed = λ t. 0; dropped = λ name. 0 }

-- the last number at which what was read has changed: its table got other rows, or the name through which it was read was dropped
abbrev pub last_change : History → TableRead → ℕ
last_change h read = max (h.changed read.table) (h.dropped read.version)

-- ---- whether rows changed

-- the same rows
abbrev pub same_rows : Rows → Rows → Bool
same_rows [] [] = true
same_rows (r ∷ rs) (t ∷ ts) = (r.0 == t.0) && same_row r.1 t.1 && same_rows rs ts
same_rows [] (t ∷ ts) = false
same_rows (r ∷ rs) [] = false

-- ---- the next number

-- these tables got other rows at the next number
abbrev pub with_changes : History → (ℕ → Bool) → History
with_changes h test = let n = next_number h.last in record { last = n; changed = λ t. if test t then n else h.changed t; dropped = h.dropped }

-- the graph changed at the next number
abbrev pub with_version : History → History
with_version h = record h { last = next_number h.last }

-- a version with this name went; its tables, also those that went with it, keep their rows
abbrev pub with_drop : History → List ℕ → History
with_drop h name = let n = next_number h.last in record { last = n; changed = h.changed; dropped = λ other. if bytes_eq name other then n else h.dropped other }
