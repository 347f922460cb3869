-- Rows as CSV, and CSV as rows.
use Rattle.std.specs.Prelude.{◌≡◌, ℕ, List, ◌∷◌, length, map, flat_map}
use Rattle.std.specs.List.{All}
use Rattle.par_base.specs.declared.value.Value.{Value}
use Rattle.csv.specs.Reading.{default_config, records, strip_bom}
use Rattle.csv.specs.Writing.{default_writer, row_text}
use Rattle.csv_io.specs.Fields.{field_value, value_field}

-- each row has one value for each name of the header
abbrev pub HasWidth : List (List ℕ) → List (List Value) → Type 0
HasWidth header rows = All (λ row. length row ≡ length header) rows

-- the header's record, and one for each row
unfoldable pub csv_text : List (List ℕ) → List (List Value) → List ℕ
csv_text header rows = flat_map (row_text default_writer) (header ∷ map (map value_field) rows)

-- a row for each record, after a byte order mark where there is one
unfoldable pub csv_rows : List ℕ → List (List Value)
csv_rows text = map (map field_value) (records default_config (strip_bom text))
