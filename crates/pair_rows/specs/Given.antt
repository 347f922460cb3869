-- Rows of a new joined table that are as they were, and rows that are found or drawn for the others.
use Rattle.std.specs.Prelude.{ℕ, ◌+◌, List, [], ◌∷◌, ◌++◌, Option, Some, None, if◌then◌else◌}
use Rattle.par_base.specs.declared.value.Value.{Value}
use Rattle.row_store.specs.Rows.{Rows, row_of}
use Rattle.id_memory.specs.Pairs.{Pairs, pair_of}
use Rattle.row_parts.specs.Places.{pick as part}
use Rattle.par_base.specs.SameRows.{same_row}
use Rattle.row_parts.specs.RowCells.{Cell}
pub use Rattle.key_index.specs.Found.{first_with as least}

-- the old pair of an identifier whose row is unchanged
abbrev pub unchanged : Cell → Option (ℕ × ℕ) → List Value → Option (ℕ × ℕ)
unchanged (Some old) pair row = if same_row old row then pair else None
unchanged None pair row = None

-- the entries of the identifiers whose row is unchanged
abbrev pub kept_entry : ℕ → Option (ℕ × ℕ) → Pairs → Pairs
kept_entry p (Some pair) es = (p, pair.0, pair.1) ∷ es
kept_entry p None es = es

-- the same of all rows
abbrev pub kept_in : Rows → Pairs → Rows → Pairs
kept_in r m [] = []
kept_in r m (x ∷ xs) = kept_entry x.0 (unchanged (row_of r x.0) (pair_of m x.0) x.1) (kept_in r m xs)

-- an identifier that was found or drawn, the rows with the drawn one, and the next identifier
pub record Got : Type 0 where
  pub id : ℕ
  pub rows : Rows
  pub next : ℕ

-- where none was found, a row with these values is drawn
abbrev pub got : Option ℕ → Rows → List Value → ℕ → Got
got (Some id) rows x n = record { id = id; rows = rows; next = n }
got None rows x n = record { id = n; rows = rows ++ (n, x) ∷ []; next = n + 1 }

-- the old identifier, where the old row has the same part
abbrev pub own : List ℕ → Cell → Option ℕ → List Value → Option ℕ
own places (Some old) id row = if same_row (part places old) (part places row) then id else None
own places None id row = None

-- an identifier, or else the other
abbrev pub or_id : Option ℕ → Option ℕ → Option ℕ
or_id (Some id) other = Some id
or_id None other = other

-- the own one; else the least old row with the values of the part; else the least drawn one; else a new one. Drawn rows stand behind the old ones, so the least of all is an old one where there is one
abbrev pub side_got : List ℕ → Cell → Option ℕ → List Value → Rows → ℕ → Got
side_got places old id row rows n = got (or_id (own places old id row) (least rows (part places row))) rows (part places row) n
