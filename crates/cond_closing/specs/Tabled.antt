-- Two tables whose rows are gone over.
use Rattle.std.specs.Prelude.{◌≡◌}
use Rattle.row_store.specs.Rows.{Rows}
use Rattle.cond_closing.specs.declared.by_rows.ByRows.{ByRows}

-- its tables are these
pub record AreTables (it : ByRows) (s t : Rows) : Type 0 where
  pub first : it.first.now.rows ≡ s
  pub second : it.second.now.rows ≡ t
