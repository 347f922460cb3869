-- One record more is written.
use Rattle.std.specs.Prelude.{Some, None, flat_map}
use Rattle.std.specs.Io.KnownBytes.{Appends, Keeps}
use Rattle.std.proofs.Common.{◌≡◌, ◌≢◌, ◌∙◌, ◌<◌, ◌+◌, ℕ, false, List, [], ◌∷◌, ◌++◌, Vec, Global, Option, append_assoc, append-nil, get_or, length, map, take, refl, ap, subst, sym}
use Rattle.std.proofs.lemmas.Grind.{flat_map-append}
use Rattle.std.proofs.lemmas.List.{map-append, take_more}
use Rattle.std.proofs.lemmas.Str.{IsUtf8-append}
use Rattle.par_base.specs.declared.value.Value.{Value}
use Rattle.csv.specs.Records.{AllText}
use Rattle.csv.specs.Writing.{default_writer, fields_written, has_written, row_text, text_written, writer_setup}
use Rattle.csv.specs.declared.writer.QuoteStyle.TheVariants as style
use Rattle.csv.specs.declared.writer.Writer.{Writer}
use Rattle.csv_io.specs.Fields.{value_field}
use Rattle.csv_io.specs.Tables.{csv_text}
use Rattle.csv_io.specs.inner.Writing.{HasWritten}
use Rattle.csv_io.proofs.QuoteLemmas.{row_utf8}

appended : (old new : Option (List ℕ)) (text line : List ℕ) → old ≡ Some text → Appends old new line → new ≡ Some (text ++ line)
appended old None text line is h = absurd (rw is at h)
appended old (Some ys) text line is h = let grown : ys ≡ text ++ line = rw is at h in rw grown refl

-- what the writer says of a record that it wrote
pub record_more : (old new : Writer (Vec ℕ Global)) (text : List ℕ) (fields : List (List ℕ)) → AllText fields → HasWritten old text
    → (fields_written old ≡ 0 → has_written old ≡ false → (writer_setup old).style ≢ style.NonNumeric
    → Appends (text_written (λ (v : Vec ℕ Global). Some v.items) old) (text_written (λ (v : Vec ℕ Global). Some v.items) new) (row_text (writer_setup old) fields))
    → fields_written new ≡ 0 → has_written new ≡ false → writer_setup new ≡ writer_setup old → HasWritten new (text ++ row_text default_writer fields)
record_more old new text fields texts so bytes ended clean setup =
    let plain : (writer_setup old).style ≢ style.NonNumeric = rw so.setup (λ e. cc) in
    let grown = rw so.setup at (bytes so.fields so.fresh plain) in
    record {
      setup = setup ∙ so.setup;
      fields = ended;
      fresh = clean;
      bytes = appended (text_written (λ (v : Vec ℕ Global). Some v.items) old) (text_written (λ (v : Vec ℕ Global). Some v.items) new) text (row_text default_writer fields) so.bytes grown;
      utf8 = IsUtf8-append text (row_text default_writer fields) so.utf8 (row_utf8 fields texts);
    }

-- what the writer gives back
pub kept : (w : Writer (Vec ℕ Global)) (bytes text : List ℕ) → HasWritten w text → Keeps (text_written (λ (v : Vec ℕ Global). Some v.items) w) (Some bytes) → bytes ≡ text
kept w bytes text so keeps = subst (λ (o : Option (List ℕ)). Keeps o (Some bytes)) so.bytes keeps

-- the header alone
pub text_start : (header : List (List ℕ)) → csv_text header [] ≡ row_text default_writer header
unfolding csv_text
text_start header = append-nil (row_text default_writer header)

-- one row more
pub text_more : (header : List (List ℕ)) (rows : List (List Value)) (row : List Value)
    → csv_text header (rows ++ row ∷ []) ≡ csv_text header rows ++ row_text default_writer (map value_field row)
unfolding csv_text
text_more header rows row =
    let f : List (List ℕ) → List ℕ = row_text default_writer in
    let g : List Value → List (List ℕ) = map value_field in
    ap (λ (l : List (List (List ℕ))). f header ++ flat_map f l) (map-append g rows (row ∷ []))
    ∙ ap (λ (l : List ℕ). f header ++ l) (flat_map-append f (map g rows) (g row ∷ []) ∙ ap (λ (l : List ℕ). flat_map f (map g rows) ++ l) (append-nil (f (g row))))
    ∙ sym (append_assoc (f header) (flat_map f (map g rows)) (f (g row)))

-- the line of a row
pub row_line : (header : List (List ℕ)) (rows : List (List Value)) (at : ℕ) (row : List Value) (fields : List (List ℕ)) → at < length rows → row ≡ get_or rows at row
    → fields ≡ map value_field row → csv_text header (take at rows) ++ row_text default_writer fields ≡ csv_text header (take (at + 1) rows)
row_line header rows at row fields lt is so =
    let next : take (at + 1) rows ≡ take at rows ++ row ∷ [] = take_more rows at row lt ∙ ap (λ (r : List Value). take at rows ++ r ∷ []) (sym is) in
    ap (λ (l : List (List ℕ)). csv_text header (take at rows) ++ row_text default_writer l) so ∙ sym (ap (csv_text header) next ∙ text_more header (take at rows) row)
