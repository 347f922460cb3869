-- What becomes of values and rows that the other side of a write doesn't have.
use Rattle.std.specs.Prelude.{◌≡◌, ℕ, List, [], ◌∷◌, length, true, false, Some, None, IsSome}
use Rattle.par_base.specs.declared.value.Value.{Value}
use Rattle.op_law.specs.Tables.{Heading}
use Rattle.op_rows.specs.Cells.{Cells, nth_cell, AreCellsOf}
use Rattle.op_rows.specs.RowMeaning.{RowPair}
use Rattle.row_parts.specs.RowCells.{Cell}
use Rattle.row_parts.specs.Places.{pick, nulls}
use Rattle.op_key_join.specs.Nulls.{is_null}
use Rattle.op_key_join.specs.OtherPlaces.{others}
use Rattle.op_key_join.specs.DecomposeSingle.{rest_of, decompose_single}
use Rattle.op_key_join.specs.DecomposePk.{decompose_pk}
use Rattle.op_key_join.specs.JoinPk.{join_pk}

-- DECOMPOSE into one table: a row of the old source keeps its values of the other columns, whatever is written in the target
abbrev pub OtherColumnsKept : Type 0
OtherColumnsKept =
    (columns : List ℕ) (width : ℕ) (hs ht : List Heading) (near s t : Cells)
    → RowPair (decompose_single columns width) hs ht s t → AreCellsOf ht near → IsSome (nth_cell 0 near) → IsSome (nth_cell 0 s)
    → rest_of columns width (nth_cell 0 ((decompose_single columns width).backward near s t)) ≡ rest_of columns width (nth_cell 0 s)

-- a row of a new identifier gets nulls there
abbrev pub OtherColumnsNull : Type 0
OtherColumnsNull =
    (columns : List ℕ) (width : ℕ) (hs ht : List Heading) (near s t : Cells)
    → RowPair (decompose_single columns width) hs ht s t → AreCellsOf ht near → IsSome (nth_cell 0 near) → nth_cell 0 s ≡ None
    → rest_of columns width (nth_cell 0 ((decompose_single columns width).backward near s t)) ≡ Some (nulls (length (others columns width)))

-- DECOMPOSE ON PK: a null part makes no row of its target
abbrev pub NullPartMakesNoRow : Type 0
NullPartMakesNoRow =
    (first second : List ℕ) (row : List Value) (s : Cells) (y : Cell) → is_null (pick first row) ≡ true → is_null (pick second row) ≡ false
    → (decompose_pk first second).forward (Some row ∷ []) s (None ∷ y ∷ []) ≡ None ∷ Some (pick second row) ∷ []

-- but a null row that a target has stays there
abbrev pub NullRowStays : Type 0
NullRowStays =
    (first second : List ℕ) (row x : List Value) (s : Cells) (y : Cell) → is_null x ≡ true → is_null (pick second row) ≡ false
    → (decompose_pk first second).forward (Some row ∷ []) s (Some x ∷ y ∷ []) ≡ Some (pick first row) ∷ Some (pick second row) ∷ []

-- a row that is in neither target stays while the targets are written
abbrev pub RowOfNeitherStays : Type 0
RowOfNeitherStays = (first second : List ℕ) (c : Cell) → (decompose_pk first second).backward (None ∷ None ∷ []) (c ∷ []) (None ∷ None ∷ []) ≡ c ∷ []

-- and one that was in a target and is in neither now goes
abbrev pub RowOfTargetsGoes : Type 0
RowOfTargetsGoes = (first second : List ℕ) (c y : Cell) (x : List Value) → (decompose_pk first second).backward (None ∷ None ∷ []) (c ∷ []) (Some x ∷ y ∷ []) ≡ None ∷ []

-- JOIN ON PK: rows that the target never had stay while it is written
abbrev pub RowsAloneStay : Type 0
RowsAloneStay = (first second : ℕ) (x y : Cell) → (join_pk first second).backward (None ∷ []) (x ∷ y ∷ []) (None ∷ []) ≡ x ∷ y ∷ []

-- and both rows of one that is deleted in it go
abbrev pub DeletedRowsGo : Type 0
DeletedRowsGo = (first second : ℕ) (x y : Cell) (row : List Value) → (join_pk first second).backward (None ∷ []) (x ∷ y ∷ []) (Some row ∷ []) ≡ None ∷ None ∷ []
