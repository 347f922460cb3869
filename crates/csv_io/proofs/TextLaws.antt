-- What crates above may use of the rows of a text.
use Rattle.std.specs.Prelude.{◌≤◌, ℕ, zero, suc, Option, Some, None, List, [], ◌∷◌, length, map, IsUtf8}
use Rattle.std.specs.List.{All}
use Rattle.std.proofs.Common.{◌≡◌, ◌<◌, refl, arith}
use Rattle.statements.specs.Texts.{RowTexts}
use Rattle.csv.specs.Machine.{Read, next_record}
use Rattle.csv.specs.Reading.{default_config, records_from, records_next, strip_bom}
use Rattle.csv.specs.Records.{AllText}
use Rattle.csv.specs.declared.parser.State.{State}
use Rattle.csv.specs.declared.parser.State.TheVariants as st
use Rattle.csv_io.specs.Fields.{field_value}
use Rattle.csv_io.specs.Tables.{csv_rows}
use Rattle.csv_io.proofs.FieldLemmas.{field_texts}
use Rattle.csv_io.proofs.RecordLemmas.{texts_within}
use Rattle.csv_io.proofs.TextLemmas.{IsPlain, read_text, strip_text}

-- no text of the rows is longer than the text that they were read from
pub rows_within : (text : List ℕ) → All (RowTexts (λ bytes. length bytes ≤ length text)) (csv_rows text)
rows_within = texts_within

-- each record's fields are texts
abbrev AllTexts : List (List (List ℕ)) → Type 0
AllTexts [] = Unit {0}
AllTexts (r ∷ rs) = AllText r × AllTexts rs

all_texts : (k : ℕ) (s : State) (xs : List ℕ) → IsPlain s → IsUtf8 xs → AllTexts (records_from default_config k s xs)
unfolding records_from
all_texts zero s xs plain u = tt
all_texts (suc k) s xs plain u = turn (next_record default_config s [] [] xs) refl (all_texts k)
  where
    turn : (o : Option Read) → next_record default_config s [] [] xs ≡ o
        → ((t : State) (ys : List ℕ) → IsPlain t → IsUtf8 ys → AllTexts (records_from default_config k t ys))
        → AllTexts (records_next (records_from default_config k) o)
    turn None is more = tt
    turn (Some p) is more =
        let read = read_text s xs p plain u is in
        (read.fields, more p.1 p.2 read.state read.rest)

row_texts : (fields : List (List ℕ)) → AllText fields → RowTexts IsUtf8 (map field_value fields)
unfolding AllText
row_texts [] h k d lt = absurd (omega (arith, lt))
row_texts (f ∷ fs) h zero d lt = field_texts IsUtf8 f h.0
row_texts (f ∷ fs) h (suc k) d lt = row_texts fs h.1 k d (omega (arith, lt))

rows_texts : (rs : List (List (List ℕ))) → AllTexts rs → All (RowTexts IsUtf8) (map (map field_value) rs)
rows_texts [] h k d lt = absurd (omega (arith, lt))
rows_texts (r ∷ rs) h zero d lt = row_texts r h.0
rows_texts (r ∷ rs) h (suc k) d lt = rows_texts rs h.1 k d (omega (arith, lt))

-- and they are UTF-8 as it is
pub rows_text : (text : List ℕ) → IsUtf8 text → All (RowTexts IsUtf8) (csv_rows text)
unfolding csv_rows
rows_text text u = rows_texts _ (all_texts _ st.StartRecord (strip_bom text) tt (strip_text text u))
