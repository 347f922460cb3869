-- The width of a joined row.
use Rattle.std.proofs.Common.{◌≡◌, ℕ, ◌+◌, List, length, ap, ◌∙◌, Option, Some, None}
use Rattle.par_base.specs.declared.value.Value.{Value}
use Rattle.row_store.specs.Rows.{Rows, row_of}
use Rattle.row_parts.specs.Places.{row_of_both as joined_row}
use Rattle.pair_rows.specs.inner.JoinedRows.{joined_long}
use Rattle.pair_rows.specs.Shown.{Joining, join_cells, row_at}

-- a joined row is as wide as both parts
pub row_wide : (j : Joining) (s t : Rows) (a b : ℕ) (row : List Value) → Some row ≡ row_at j s t a b → length row ≡ length j.first + length j.second
row_wide j s t a b row e = cell_wide (row_of s a) (row_of t b) e
  where
    cell_wide : (c d : Option (List Value)) → Some row ≡ join_cells j c d → length row ≡ length j.first + length j.second
    cell_wide (Some x) (Some y) e = let same : row ≡ joined_row j.first j.second x y = cc in ap length same ∙ joined_long j.first j.second x y
    cell_wide (Some x) None e = absurd (cc)
    cell_wide None d e = absurd (cc)
