-- ADD COLUMN .. TRACKED: the column's value follows its expression until it is written.
use Rattle.std.specs.Prelude.{◌≡◌, ℕ, ◌-◌, List, [], ◌∷◌, length, if◌then◌else◌, Option, Some, None, true}
use Rattle.par_base.specs.declared.value.Value.{Value}
use Rattle.par_base.specs.SameRows.{same_value}
use Rattle.expr_lang.specs.Terms.{Term}
use Rattle.expr_lang.specs.Val.{val}
use Rattle.op_law.specs.Tables.{Heading}
use Rattle.op_law.specs.SoundTerms.{TermSound}
use Rattle.op_rows.specs.Cells.{first_cell}
use Rattle.op_rows.specs.RowMeaning.{RowMeaning}
use Rattle.row_parts.specs.RowEdits.{value_at}
use Rattle.op_column.specs.AddColumn.{with_column, without_column, added_value, AddColumnFits}

-- the place behind all values of a row, where the column is put in
abbrev pub end_of : Option (List Value) → ℕ
end_of None = 0
end_of (Some row) = length row

-- the place of a row's last value, where the column is
abbrev pub last_of : Option (List Value) → ℕ
last_of None = 0
last_of (Some row) = length row - 1

-- a row's last value
abbrev pub last_value : List Value → Value
last_value row = value_at (length row - 1) row

-- the value alone, where it isn't the expression's
abbrev pub unless_same : Value → Value → Option (List Value)
unless_same follows value = if same_value follows value then None else Some (value ∷ [])

-- the value by which the target's row deviates: where it isn't the expression's at the source's row
abbrev pub deviating : Term ℕ → Option (List Value) → Option (List Value) → Option (List Value)
deviating e (Some row) (Some target) = unless_same (val e row) (last_value target)
deviating e None target = None
deviating e (Some row) None = None

-- the target's row: the source's, and behind it the value that deviates, or else the expression's
abbrev pub tracked : Term ℕ → Option (List Value) → Option (List Value) → Option (List Value)
tracked e source kept = with_column (end_of source) (added_value 0 e kept) source

-- how many columns the only table has
abbrev pub columns_in : List Heading → ℕ
columns_in [] = 0
columns_in (heading ∷ headings) = length heading.columns

-- only the values that deviate are kept: from the old source to the new one, and beside a stored source
abbrev pub add_tracked : Term ℕ → RowMeaning
add_tracked e = record {
  sources = 1;
  targets = 1;
  source_aux = 1;
  target_aux = 0;
  Fits = λ hs ht. AddColumnFits (columns_in hs) e hs ht;
  Closed = λ n. TermSound n e;
  Related = λ s t. first_cell s ≡ without_column (last_of (first_cell t)) (first_cell t);
  forward = λ near s t. tracked e (first_cell near) (deviating e (first_cell s) (first_cell t)) ∷ [];
  backward = λ near s t. without_column (last_of (first_cell near)) (first_cell near) ∷ [];
  aux_at_source = λ s t. deviating e (first_cell s) (first_cell t) ∷ [];
  aux_at_target = λ s t. [];
  read_target = λ s aux. tracked e (first_cell s) (first_cell aux) ∷ [];
  read_source = λ t aux. without_column (last_of (first_cell t)) (first_cell t) ∷ [];
  reads_target = true;
  reads_source = true;
}
