-- Rows of a new table that are as they were, and pairs with those that aren't.
use Rattle.std.specs.Prelude.{◌≡◌, ℕ, List, [], ◌∷◌, Bool, false, Some, None, if◌then◌else◌}
use Rattle.par_base.specs.declared.value.Value.{Value}
use Rattle.row_store.specs.Rows.{Rows, row_of}
use Rattle.row_parts.specs.RowCells.{Cell}
use Rattle.par_base.specs.SameRows.{same_row}

-- whether the row is as it was
abbrev pub as_before : Cell → List Value → Bool
as_before None row = false
as_before (Some old) row = same_row old row

-- the identifiers of the rows that aren't as they were
abbrev pub changed_in : Rows → Rows → List ℕ
changed_in old [] = []
changed_in old (r ∷ rs) = if as_before (row_of old r.0) r.1 then changed_in old rs else r.0 ∷ changed_in old rs

-- the identifiers of rows
abbrev pub ids_of : Rows → List ℕ
ids_of [] = []
ids_of (r ∷ rs) = r.0 ∷ ids_of rs

-- the pairs of an identifier with these
abbrev pub pairs_of : ℕ → List ℕ → List (ℕ × ℕ)
pairs_of a [] = []
pairs_of a (b ∷ bs) = (a, b) ∷ pairs_of a bs

-- the rows are rows of the table
abbrev pub AreRowsOf : Rows → Rows → Type 0
AreRowsOf table [] = Unit {0}
AreRowsOf table (r ∷ rs) = (row_of table r.0 ≡ Some r.1) × AreRowsOf table rs
