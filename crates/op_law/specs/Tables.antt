-- The tables of a side, as contracts and laws see them.
use Rattle.std.specs.Prelude.{◌≡◌, ℕ, List, [], ◌∷◌, map, length}
use Rattle.row_store.specs.Rows.{Rows, RiseFrom}
use Rattle.row_store.specs.States.{TableState}

-- the tables of a side, or auxiliary tables
abbrev pub Tables : Type 0
Tables = List Rows

-- the rows of each table
abbrev pub contents : List TableState → Tables
contents tables = map (λ table. table.rows) tables

-- the name of a table, and those of its columns
pub record Heading : Type 0 where
  pub name : List ℕ
  pub columns : List (List ℕ)

-- how many columns each table has
abbrev pub widths : List Heading → List ℕ
widths headings = map (λ heading. length heading.columns) headings

-- each row has this many values
abbrev pub RowsWide : ℕ → Rows → Type 0
RowsWide width [] = Unit {0}
RowsWide width (r ∷ rs) = (length r.1 ≡ width) × RowsWide width rs

-- the identifiers of each table rise
abbrev pub AllRise : Tables → Type 0
AllRise [] = Unit {0}
AllRise (t ∷ ts) = RiseFrom 0 t × AllRise ts

-- a table for each heading: its identifiers rise, and each row has one value for each column
abbrev pub AreTablesOf : List Heading → Tables → Type 0
AreTablesOf [] [] = Unit {0}
AreTablesOf (h ∷ hs) (t ∷ ts) = (RiseFrom 0 t × RowsWide (length h.columns) t) × AreTablesOf hs ts
AreTablesOf [] (t ∷ ts) = ⊥
AreTablesOf (h ∷ hs) [] = ⊥

-- an empty table for each heading
abbrev pub empty_tables : List Heading → Tables
empty_tables [] = []
empty_tables (h ∷ hs) = [] ∷ empty_tables hs
