-- ADD COLUMN. DROP COLUMN is its flip.
use Rattle.std.specs.Prelude.{◌≡◌, ℕ, ◌≤◌, List, [], ◌∷◌, length, Option, Some, None, true}
use Rattle.std.specs.List.{insert, remove}
use Rattle.std.specs.Option.{option_map}
use Rattle.par_base.specs.declared.value.Value.{Value}
use Rattle.par_base.specs.declared.value.Value.TheVariants.{Null}
use Rattle.expr_lang.specs.Terms.{Term}
use Rattle.expr_lang.specs.Val.{val, fits_row}
use Rattle.op_law.specs.Tables.{Heading}
use Rattle.op_law.specs.SoundTerms.{TermSound}
use Rattle.op_rows.specs.Cells.{first_cell}
use Rattle.op_rows.specs.RowMeaning.{RowMeaning}
use Rattle.row_parts.specs.RowEdits.{value_at}

-- a row with the column, which gets this value at it
abbrev pub with_column : ℕ → (List Value → Value) → Option (List Value) → Option (List Value)
with_column place value cell = option_map (λ row. insert row place (value row)) cell

-- a row without the column
abbrev pub without_column : ℕ → Option (List Value) → Option (List Value)
without_column place cell = option_map (λ row. remove row place) cell

-- the column alone
abbrev pub column_alone : ℕ → Option (List Value) → Option (List Value)
column_alone place cell = option_map (λ row. value_at place row ∷ []) cell

-- what the column gets at a row: the old target's value where that had the identifier, else the expression's
abbrev pub added_value : ℕ → Term ℕ → Option (List Value) → List Value → Value
added_value place e (Some old) row = value_at place old
added_value place e None row = val e row

-- the new target's row, from the new source's and the old target's
abbrev pub added : ℕ → Term ℕ → Option (List Value) → Option (List Value) → Option (List Value)
added place e near old = with_column place (added_value place e old) near

-- the value that was kept beside, and null where none was
abbrev pub kept_value : Option (List Value) → Value
kept_value (Some kept) = value_at 0 kept
kept_value None = Null

-- the target's row, from the source's and what was kept beside
abbrev pub restored : ℕ → Option (List Value) → Option (List Value) → Option (List Value)
restored place near kept = with_column place (λ row. kept_value kept) near

-- the target's columns are the source's with one name more at the place, and the expression reads the source's columns
pub record AddColumnFits (place : ℕ) (e : Term ℕ) (hs ht : List Heading) : Type 0 where
  pub source : Heading
  pub target : Heading
  pub column : List ℕ
  pub source_is : hs ≡ source ∷ []
  pub target_is : ht ≡ target ∷ []
  pub columns : target.columns ≡ insert source.columns place column
  pub within : place ≤ length source.columns
  pub reads : fits_row e (length source.columns) ≡ true

abbrev pub add_column : ℕ → Term ℕ → RowMeaning
add_column place e = record {
  sources = 1;
  targets = 1;
  source_aux = 1;
  target_aux = 0;
  Fits = AddColumnFits place e;
  Closed = λ n. TermSound n e;
  Related = λ s t. first_cell s ≡ without_column place (first_cell t);
  forward = λ near s t. added place e (first_cell near) (first_cell t) ∷ [];
  backward = λ near s t. without_column place (first_cell near) ∷ [];
  aux_at_source = λ s t. column_alone place (first_cell t) ∷ [];
  aux_at_target = λ s t. [];
  read_target = λ s aux. restored place (first_cell s) (first_cell aux) ∷ [];
  read_source = λ t aux. without_column place (first_cell t) ∷ [];
  reads_target = true;
  reads_source = true;
}
