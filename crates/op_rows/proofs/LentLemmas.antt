-- The row of a table that is looked up is the cell there.
use Rattle.std.proofs.Common.{◌≡◌, ℕ, zero, suc, ◌<◌, ◌≤◌, List, [], ◌∷◌, length, Option, Some, None, refl, sym, ap, ◌∙◌}
use Rattle.std.proofs.lemmas.Option.{slice_get_past, slice_get_read}
use Rattle.std.specs.Prelude.{slice_get, get_or}
use Rattle.par_base.specs.declared.value.Value.{Value}
use Rattle.row_store.specs.Rows.{row_of}
use Rattle.row_store.specs.States.{TableState}
use Rattle.op_law.specs.Tables.{contents}
use Rattle.op_rows.specs.Cells.{cells_at, nth_cell}

abbrev cell_of : ℕ → Option TableState → Option (List Value)
cell_of id None = None
cell_of id (Some table) = row_of table.rows id

nth_stored : (tables : List TableState) (id at : ℕ) → cell_of id (slice_get tables at) ≡ nth_cell at (cells_at (contents tables) id)
nth_stored [] id at = refl
nth_stored (table ∷ tables) id zero = refl
nth_stored (table ∷ tables) id (suc at) = nth_stored tables id at

pub stored_there : (tables : List TableState) (id at : ℕ) (table : TableState) → at < length tables → table ≡ get_or tables at table
    → row_of table.rows id ≡ nth_cell at (cells_at (contents tables) id)
stored_there tables id at table within is = ap (cell_of id) (sym (slice_get_read tables (length tables) at table refl within is)) ∙ nth_stored tables id at

pub stored_past : (tables : List TableState) (id at : ℕ) → length tables ≤ at → None ≡ nth_cell at (cells_at (contents tables) id)
stored_past tables id at past = ap (cell_of id) (sym (slice_get_past tables at past)) ∙ nth_stored tables id at
