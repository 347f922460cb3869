-- The tables of a side by their place.
use Rattle.std.specs.Prelude.{[], ◌∷◌}
use Rattle.row_store.specs.Rows.{Rows}
use Rattle.op_law.specs.Tables.{Tables}

-- the first of these tables, and an empty one where there is none
abbrev pub first_table : Tables → Rows
first_table [] = []
first_table (t ∷ ts) = t

-- all others
abbrev pub other_tables : Tables → Tables
other_tables [] = []
other_tables (t ∷ ts) = ts

-- the second, likewise
abbrev pub second_table : Tables → Rows
second_table tables = first_table (other_tables tables)

-- and the third
abbrev pub third_table : Tables → Rows
third_table tables = first_table (other_tables (other_tables tables))
