-- Room for changes that wait, in the tables that they name.
use Rattle.std.specs.Prelude.{◌≡◌, ℕ, ◌+◌, ◌≤◌, Bool, true, List, [], ◌∷◌, ◌++◌, length, if◌then◌else◌}
use Rattle.std.specs.List.{list_any}
use Rattle.std.specs.Str.{bytes_eq}
use Rattle.change_feed.specs.declared.note.TableChange.{TableChange}
use Rattle.change_feed.specs.Shown.{Fit}
use Rattle.feed_mirror.specs.declared.tables.Shown.{Shown}
use Rattle.feed_mirror.specs.Tables.{named}
use Rattle.feed_mirror.specs.Padded.{AllThere}

-- one of the changes is of the table with this name
abbrev pub is_named : List ℕ → List TableChange → Bool
is_named name cs = list_any (λ (c : TableChange). bytes_eq c.table name) cs

-- how many rows the changes name
abbrev pub total : List TableChange → ℕ
total [] = 0
total (c ∷ cs) = length c.changes + total cs

-- how many of them are of the table with this name
abbrev pub due_of : List ℕ → List TableChange → ℕ
due_of name [] = 0
due_of name (c ∷ cs) = (if bytes_eq c.table name then length c.changes else 0) + due_of name cs

-- each table has room for the changes that are due to it
abbrev pub HasRooms : List TableChange → List Shown → Type 0
HasRooms cs [] = Unit {0}
HasRooms cs (t ∷ ts) = (due_of t.name cs ≤ t.table.spare) × HasRooms cs ts

-- each table that one of the changes names has room for so many rows
abbrev pub RoomsFor : List TableChange → ℕ → List Shown → Type 0
RoomsFor cs due [] = Unit {0}
RoomsFor cs due (t ∷ ts) = (is_named t.name cs ≡ true → due ≤ t.table.spare) × RoomsFor cs due ts

-- what has room still has it
abbrev pub RoomsGrow : List Shown → List Shown → Type 0
RoomsGrow old new = (cs : List TableChange) → HasRooms cs old → HasRooms cs new

-- likewise where tables may come that no change names
abbrev pub KeepsRooms : List Shown → List Shown → Type 0
KeepsRooms old new = (cs : List TableChange) → AllThere cs (named old) → HasRooms cs old → HasRooms cs new

-- changes may be put into the tables, in order: each is of a table that is there, has its old rows, and has room
pub record MayTell (cs : List TableChange) (tables : List Shown) : Type 0 where
  pub there : AllThere cs (named tables)
  pub fits : Fit cs (named tables)
  pub rooms : HasRooms cs tables

-- once these are put in, what could be put in behind them may be
abbrev pub LeavesTelling : List TableChange → List Shown → List Shown → Type 0
LeavesTelling cs old new = (more : List TableChange) → MayTell (cs ++ more) old → MayTell more new
