-- Which statements a table takes: its rows have one width, and the places and expressions fit that.
use Rattle.std.specs.Prelude.{◌≡◌, ℕ, ◌+◌, ◌<◌, ◌≤◌, Bool, true, List, Option, Some, None}
use Rattle.std.specs.List.{All}
use Rattle.expr_lang.specs.Terms.{Term}
use Rattle.expr_lang.specs.Val.{fits_row}
use Rattle.row_store.specs.Rows.{Rows}
use Rattle.op_law.specs.Tables.{RowsWide}
use Rattle.ordinary_table.specs.Written.{SetTerm}

-- a condition reads only what a row shows that shows so many values
abbrev pub condition_fits : Option (Term ℕ) → ℕ → Bool
condition_fits None many = true
condition_fits (Some condition) many = fits_row condition many

-- a SET has a column of a row with so many values, and reads only what the row shows, its reference and these values
pub record SetFits (width : ℕ) (s : SetTerm) : Type 0 where
  pub column : s.place < width
  pub reads : fits_row s.value (width + 1) ≡ true

-- a DELETE fits the table
pub record DeleteFits (rows : Rows) (condition : Option (Term ℕ)) : Type 0 where
  pub width : ℕ
  pub wide : RowsWide width rows
  pub reads : condition_fits condition (width + 1) ≡ true

-- an UPDATE fits the table
pub record UpdateFits (rows : Rows) (sets : List SetTerm) (condition : Option (Term ℕ)) : Type 0 where
  pub width : ℕ
  pub wide : RowsWide width rows
  pub set : All (SetFits width) sets
  pub reads : condition_fits condition (width + 1) ≡ true

-- a SELECT fits the table: place 0 shows the reference, and the others the values
pub record SelectFits (rows : Rows) (places : List ℕ) (condition : Option (Term ℕ)) : Type 0 where
  pub width : ℕ
  pub wide : RowsWide width rows
  pub shows : All (λ place. place ≤ width) places
  pub reads : condition_fits condition (width + 1) ≡ true
