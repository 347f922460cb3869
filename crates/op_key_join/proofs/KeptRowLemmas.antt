-- What becomes of values and rows that the other side of a write doesn't have.
use Rattle.std.proofs.Common.{◌≡◌, ℕ, List, length, Some, None, IsSome, refl, ◌∙◌, ap, arith}
use Rattle.std.proofs.lemmas.Bool.{false≢true}
use Rattle.op_rows.specs.Cells.{nth_cell, CellWide}
use Rattle.row_parts.specs.RowCells.{Cell, row_or}
use Rattle.row_parts.specs.Places.{nulls}
use Rattle.row_parts.specs.inner.PlaceLemmas.{second_join}
use Rattle.row_parts.specs.Partition.{Divides}
use Rattle.op_key_join.specs.OtherPlaces.{others}
use Rattle.op_key_join.specs.inner.PartLemmas.{pick_wide, or_nulls_wide}
use Rattle.op_key_join.specs.DecomposeSingle.{rest_of, with_rest}
use Rattle.op_key_join.specs.inner.DecomposeSingleLaws.{single_divides, target_of}
use Rattle.op_key_join.specs.KeptRows.{OtherColumnsKept, OtherColumnsNull, NullPartMakesNoRow, NullRowStays, RowOfNeitherStays, RowOfTargetsGoes, RowsAloneStay, DeletedRowsGo}

-- the other columns of the row that is made
rest_back : (columns : List ℕ) (width : ℕ) (part kept : Cell) → Divides columns (others columns width) width → CellWide (length columns) part → CellWide (length (others columns width)) kept
    → IsSome part → rest_of columns width (with_rest columns width part kept) ≡ Some (row_or (nulls (length (others columns width))) kept)
rest_back columns width None kept divides wide other has = absurd (false≢true has)
rest_back columns width (Some row) kept divides wide other has =
    let rest = others columns width in
    ap Some (second_join columns rest divides.divided row (row_or (nulls (length rest)) kept) wide (or_nulls_wide (length rest) kept other))

or_own : (columns : List ℕ) (width : ℕ) (c : Cell) → IsSome c → Some (row_or (nulls (length (others columns width))) (rest_of columns width c)) ≡ rest_of columns width c
or_own columns width None has = absurd (false≢true has)
or_own columns width (Some row) has = refl

pub other_columns_kept : OtherColumnsKept
other_columns_kept columns width hs ht near s t pair near_of has had =
    rest_back columns width (nth_cell 0 near) (rest_of columns width (nth_cell 0 s)) (single_divides columns width hs ht pair.fits)
    (target_of columns width hs ht near pair.fits near_of).wide (pick_wide (others columns width) (nth_cell 0 s)) has
    ∙ or_own columns width (nth_cell 0 s) had

pub other_columns_null : OtherColumnsNull
other_columns_null columns width hs ht near s t pair near_of has new =
    rest_back columns width (nth_cell 0 near) (rest_of columns width (nth_cell 0 s)) (single_divides columns width hs ht pair.fits)
    (target_of columns width hs ht near pair.fits near_of).wide (pick_wide (others columns width) (nth_cell 0 s)) has
    ∙ ap (λ (c : Cell). Some (row_or (nulls (length (others columns width))) (rest_of columns width c))) new

pub null_part_makes_no_row : NullPartMakesNoRow
null_part_makes_no_row first second row s y null other = rw (null, other) refl

pub null_row_stays : NullRowStays
null_row_stays first second row x s y null other = grind arith

pub row_of_neither_stays : RowOfNeitherStays
row_of_neither_stays first second c = refl

pub row_of_targets_goes : RowOfTargetsGoes
row_of_targets_goes first second c y x = refl

pub rows_alone_stay : RowsAloneStay
rows_alone_stay first second x y = refl

pub deleted_rows_go : DeletedRowsGo
deleted_rows_go first second x y row = refl
