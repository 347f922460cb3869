-- What is read of a text, and what is read back.
use Rattle.std.specs.Prelude.{◌≡◌, ◌≤◌, ℕ, List, length, ⊤, IsUtf8}
use Rattle.std.specs.List.{All}
use Rattle.par_base.specs.Literals.{IsValue}
use Rattle.par_base.specs.declared.value.Value.{Value}
use Rattle.par_base.specs.declared.value.Value.TheVariants.{Null, Int, Text, Reference}
use Rattle.statements.specs.Texts.{RowTexts}
use Rattle.csv_io.specs.Fields.{field_value, value_field}
use Rattle.csv_io.specs.Tables.{csv_rows}

-- no text of the rows is longer than the text that they were read from
abbrev pub TextsAreWithin : Type 0
TextsAreWithin = (text : List ℕ) → All (RowTexts (λ bytes. length bytes ≤ length text)) (csv_rows text)

-- the texts of the rows of a text are UTF-8, as it is
abbrev pub TextsAreText : Type 0
TextsAreText = (text : List ℕ) → IsUtf8 text → All (RowTexts IsUtf8) (csv_rows text)

-- a value that was read is written as the field that it was read from
abbrev pub FieldsAreKept : Type 0
FieldsAreKept = (field : List ℕ) → value_field (field_value field) ≡ field

-- the value is no text
abbrev pub IsNoText : Value → Type 0
IsNoText Null = ⊤
IsNoText (Int number) = ⊤
IsNoText (Text text) = ⊥
IsNoText (Reference id) = ⊤

-- null, an integer and a reference are read back
abbrev pub ValuesReadBack : Type 0
ValuesReadBack = (value : Value) → IsValue value → IsNoText value → field_value (value_field value) ≡ value
