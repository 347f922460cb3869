-- The tables of a side, by their number, and what an operator is built for.
use Rattle.std.specs.Prelude.{◌≡◌, ℕ, ◌+◌, List, [], ◌∷◌, length, slice_get, unwrap_or, true}
use Rattle.expr_lang.specs.Val.{fits_row}
use Rattle.row_store.specs.Rows.{Rows}
use Rattle.op_law.specs.Tables.{Tables, Heading, widths}
use Rattle.row_parts.specs.Places.{ArePartition}
use Rattle.pair_rows.specs.Shown.{Joining}

-- a table of a side, counted from 0; past the last there is an empty one
abbrev pub table_at : ℕ → Tables → Rows
table_at at tables = unwrap_or (slice_get tables at) []

-- the target's columns are those of both sources, each once, and the condition reads them
pub record JoinFits (j : Joining) (hs ht : List Heading) : Type 0 where
  pub source : widths hs ≡ length j.first ∷ length j.second ∷ []
  pub target : widths ht ≡ (length j.first + length j.second) ∷ []
  pub places : ArePartition j.first j.second
  pub reads : fits_row j.condition (length j.first + length j.second) ≡ true
