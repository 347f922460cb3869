-- What becomes of the values of an added or a dropped column.
use Rattle.std.specs.Prelude.{◌≡◌, ℕ, List, [], ◌∷◌, ◌++◌, length, Option, Some, None, IsSome}
use Rattle.std.specs.Option.{option_map}
use Rattle.par_base.specs.declared.value.Value.{Value}
use Rattle.expr_lang.specs.Terms.{Term}
use Rattle.expr_lang.specs.Val.{val}
use Rattle.op_law.specs.Tables.{Heading}
use Rattle.op_rows.specs.Cells.{Cells, first_cell, AreCellsOf}
use Rattle.op_rows.specs.RowMeaning.{RowPair, flip_row}
use Rattle.row_parts.specs.RowEdits.{value_at}
use Rattle.op_column.specs.AddColumn.{add_column}

-- the value of the column at one identifier, where there is a row
abbrev pub column_value : ℕ → Cells → Option Value
column_value place cells = option_map (value_at place) (first_cell cells)

-- ADD COLUMN: a row of the old target whose identifier the new source has keeps its value, whatever else was written
abbrev pub AddedColumnKept : Type 0
AddedColumnKept =
    (place : ℕ) (e : Term ℕ) (hs ht : List Heading) (near s t : Cells)
    → RowPair (add_column place e) hs ht s t → AreCellsOf hs near → IsSome (first_cell near) → IsSome (first_cell t)
    → column_value place ((add_column place e).forward near s t) ≡ column_value place t

-- a row that the old target had not gets the value of the expression
abbrev pub AddedColumnFilled : Type 0
AddedColumnFilled =
    (place : ℕ) (e : Term ℕ) (hs ht : List Heading) (near s t : Cells)
    → RowPair (add_column place e) hs ht s t → AreCellsOf hs near → first_cell t ≡ None
    → column_value place ((add_column place e).forward near s t) ≡ option_map (val e) (first_cell near)

-- DROP COLUMN: a row of the old source whose identifier the new target has keeps its value, whatever else was written
abbrev pub DroppedColumnKept : Type 0
DroppedColumnKept =
    (place : ℕ) (e : Term ℕ) (hs ht : List Heading) (near s t : Cells)
    → RowPair (flip_row (add_column place e)) hs ht s t → AreCellsOf ht near → IsSome (first_cell near) → IsSome (first_cell s)
    → column_value place ((flip_row (add_column place e)).backward near s t) ≡ column_value place s

-- a row that the old source had not gets the value of the default
abbrev pub DroppedColumnFilled : Type 0
DroppedColumnFilled =
    (place : ℕ) (e : Term ℕ) (hs ht : List Heading) (near s t : Cells)
    → RowPair (flip_row (add_column place e)) hs ht s t → AreCellsOf ht near → first_cell s ≡ None
    → column_value place ((flip_row (add_column place e)).backward near s t) ≡ option_map (val e) (first_cell near)

-- the target has each row of the source with that value left out, and its other values in their order
abbrev pub DroppedColumnLeftOut : Type 0
DroppedColumnLeftOut =
    (e : Term ℕ) (before behind : List Value) (value : Value) (s t : Cells)
    → (flip_row (add_column (length before) e)).forward (Some (before ++ value ∷ behind) ∷ []) s t ≡ Some (before ++ behind) ∷ []
