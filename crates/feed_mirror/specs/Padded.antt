-- Tables, and behind them tables without rows for names that aren't there.
use Rattle.std.specs.Prelude.{◌≡◌, ℕ, ◌||◌, Bool, true, false, List, [], ◌∷◌, take, slice_get, Some, if◌then◌else◌}
use Rattle.std.specs.Str.{bytes_eq}
use Rattle.change_feed.specs.declared.note.TableChange.{TableChange}
use Rattle.change_feed.specs.Shown.{Named}
use Rattle.feed_mirror.specs.declared.tables.Shown.{Shown}
use Rattle.feed_mirror.specs.Tables.{named}

-- whether a table has the name
abbrev pub has_name : List ℕ → Named → Bool
has_name name [] = false
has_name name (t ∷ ts) = bytes_eq t.0 name || has_name name ts

-- the first table that has the name stands there
pub record IsPlace (name : List ℕ) (tables : List Shown) (at : ℕ) : Type 0 where
  pub which : Shown
  pub stands : slice_get tables at ≡ Some which
  pub has : which.name ≡ name
  pub before : has_name name (named (take at tables)) ≡ false

-- with a table of the name, which comes behind the others and has no rows where it wasn't there
abbrev pub with_name : List ℕ → Named → Named
with_name name [] = (name, []) ∷ []
with_name name (t ∷ ts) = if bytes_eq t.0 name then t ∷ ts else t ∷ with_name name ts

-- with a table for the name of each change
abbrev pub with_names : List TableChange → Named → Named
with_names [] tables = tables
with_names (c ∷ cs) tables = with_names cs (with_name c.table tables)

-- each change is of a table that is there
abbrev pub AllThere : List TableChange → Named → Type 0
AllThere [] tables = Unit {0}
AllThere (c ∷ cs) tables = (has_name c.table tables ≡ true) × AllThere cs tables
