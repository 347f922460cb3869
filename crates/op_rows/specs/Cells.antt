-- What tables have at one identifier, and tables made from what they are to have.
use Rattle.std.specs.Prelude.{◌≡◌, ℕ, zero, suc, List, [], ◌∷◌, length, map, slice_get, unwrap_or, Option, Some, None}
use Rattle.par_base.specs.declared.value.Value.{Value}
use Rattle.row_store.specs.Rows.{Rows, row_of}
use Rattle.op_law.specs.Tables.{Tables, Heading}
use Rattle.op_law.specs.Sound.{ValuesSound}

-- one row, or none, for each table of a side
abbrev pub Cells : Type 0
Cells = List (Option (List Value))

-- what each table has at the identifier
abbrev pub cells_at : Tables → ℕ → Cells
cells_at tables id = map (λ table. row_of table id) tables

-- nothing in any of so many tables
abbrev pub nones : ℕ → Cells
nones zero = []
nones (suc k) = None ∷ nones k

-- what a table of a side has, counted from 0; past the last table there is nothing
abbrev pub nth_cell : ℕ → Cells → Option (List Value)
nth_cell at cells = unwrap_or (slice_get cells at) None

abbrev pub first_cell : Cells → Option (List Value)
first_cell [] = None
first_cell (c ∷ cs) = c

abbrev pub other_cells : Cells → Cells
other_cells [] = []
other_cells (c ∷ cs) = cs

-- a row in front, where there is one
abbrev pub with_row : ℕ → Option (List Value) → Rows → Rows
with_row id None rows = rows
with_row id (Some row) rows = (id, row) ∷ rows

-- the table that has at each of these identifiers what f gives
abbrev pub table_from : List ℕ → (ℕ → Option (List Value)) → Rows
table_from [] f = []
table_from (id ∷ ids) f = with_row id (f id) (table_from ids f)

-- so many tables, which have at each of these identifiers what f gives
abbrev pub tables_from : ℕ → List ℕ → (ℕ → Cells) → Tables
tables_from zero ids f = []
tables_from (suc k) ids f = table_from ids (λ id. first_cell (f id)) ∷ tables_from k ids (λ id. other_cells (f id))

-- a row has this many values
abbrev pub CellWide : ℕ → Option (List Value) → Type 0
CellWide width None = Unit {0}
CellWide width (Some row) = length row ≡ width

-- a cell for each heading: a row has one value for each column
abbrev pub AreCellsOf : List Heading → Cells → Type 0
AreCellsOf [] [] = Unit {0}
AreCellsOf (h ∷ hs) (c ∷ cs) = CellWide (length h.columns) c × AreCellsOf hs cs
AreCellsOf [] (c ∷ cs) = ⊥
AreCellsOf (h ∷ hs) [] = ⊥

abbrev pub CellSound : ℕ → Option (List Value) → Type 0
CellSound n None = Unit {0}
CellSound n (Some row) = ValuesSound n row

-- the values of each row may stand while n is the next identifier
abbrev pub CellsSound : ℕ → Cells → Type 0
CellsSound n [] = Unit {0}
CellsSound n (c ∷ cs) = CellSound n c × CellsSound n cs
