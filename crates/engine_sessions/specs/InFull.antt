-- What a statement says in full: with the version of its table, and with the rows of an IMPORT.
use Rattle.std.specs.Prelude.{ℕ, Bool, false, List, Option, Some, None}
use Rattle.statements.specs.Views.{StatementView, Insert, Import, Update, Delete, Select}
use Rattle.statements.specs.declared.statement.TableName.{TableName}
use Rattle.csv_io.specs.Tables.{csv_rows}

-- the version that is named, or else the one in use
abbrev pub version_of : Option (List ℕ) → Option (List ℕ) → Option (List ℕ)
version_of used (Some named) = Some named
version_of used None = used

-- a table that is named without a version is one of the version in use
abbrev pub name_in_full : Option (List ℕ) → TableName → TableName
name_in_full used name = record { version = version_of used name.version; table = name.table }

-- an IMPORT inserts the rows of its text; AS CSV changes only how rows are printed
abbrev pub in_full : Option (List ℕ) → StatementView → StatementView
in_full used (Insert name rows) = Insert (name_in_full used name) rows
in_full used (Import name text) = Insert (name_in_full used name) (csv_rows text)
in_full used (Update name assignments filter) = Update (name_in_full used name) assignments filter
in_full used (Delete name filter) = Delete (name_in_full used name) filter
in_full used (Select name items filter csv) = Select (name_in_full used name) items filter false
in_full used statement = statement

-- whether rows are asked for as CSV
abbrev pub wants_csv : StatementView → Bool
wants_csv (Select name items filter csv) = csv
wants_csv _ = false
