-- What a pass over identifiers ensures.
use Rattle.std.specs.Prelude.{◌≡◌, ℕ, zero, suc, ◌<◌, true, List, [], ◌∷◌, ◌++◌, length, slice_index_or, Option, Some, None}
use Rattle.par_base.specs.declared.value.Value.{Value}
use Rattle.row_store.specs.Rows.{AreBelow}
use Rattle.row_store.specs.States.{TableState}
use Rattle.op_law.specs.Tables.{Tables, contents}
use Rattle.op_rows.specs.Cells.{Cells, cells_at, first_cell, other_cells, with_row, tables_from}
use Rattle.op_rows.specs.inner.CellLemmas.{has_id}
use Rattle.op_rows.specs.RowMeaning.{RowMeaning}
use Rattle.op_rows.specs.RowCalls.{AdmitsRows}

-- every identifier of the tables is below this one
abbrev pub AllBelow : Tables → ℕ → Type 0
AllBelow [] id = Unit {0}
AllBelow (t ∷ ts) id = AreBelow t id × AllBelow ts id

-- so many tables without rows
abbrev pub without_rows : ℕ → Tables
without_rows zero = []
without_rows (suc k) = [] ∷ without_rows k

-- each cell behind its table
abbrev pub with_cells : Tables → ℕ → Cells → Tables
with_cells [] id cells = []
with_cells (t ∷ ts) id cells = (t ++ with_row id (first_cell cells) []) ∷ with_cells ts id (other_cells cells)

-- every identifier of the table at a place, if there is one, is below this one
abbrev pub IsBelowAt : List TableState → ℕ → ℕ → Type 0
IsBelowAt tables at id = (d : TableState) → at < length tables → AreBelow (slice_index_or tables at d).rows id

-- a cell stands behind the table at a place, if there is one, and the tables before it are as they were
pub record PutsCell (before : List TableState) (at id : ℕ) (cell : Option (List Value)) (now : List TableState) : Type 0 where
  pub puts : (cells : Cells) → length cells ≡ at → with_cells (contents now) id cells ≡ with_cells (contents before) id (cells ++ cell ∷ [])
  pub stays : (k : ℕ) (d : TableState) → k < at → slice_index_or now k d ≡ slice_index_or before k d
  pub many : length now ≡ length before

-- the target that is read back at an identifier
abbrev pub read_at : RowMeaning → Tables → Tables → ℕ → Cells
read_at r near aux id = r.read_target (cells_at near id) (cells_at aux id)

-- the answer at an identifier
abbrev pub AdmitsAt : RowMeaning → Tables → Tables → ℕ → Option Cells → Type 0
AdmitsAt r near aux id far = AdmitsRows r (cells_at near id) (cells_at aux id) far

-- the target that is read back, where the rows of each of the identifiers are admitted, or none, where those of one aren't
abbrev pub AdmitsEach : RowMeaning → Tables → Tables → ℕ → List ℕ → Option (List TableState) → Type 0
AdmitsEach r near aux count ids (Some made) = (contents made ≡ tables_from count ids (read_at r near aux)) × ((id : ℕ) → has_id ids id ≡ true → AdmitsAt r near aux id (Some (read_at r near aux id)))
AdmitsEach r near aux count ids None = (id : ℕ) × AdmitsAt r near aux id None
