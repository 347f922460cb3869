-- DECOMPOSE into one table, at one identifier: the target has some of the source's columns.
use Rattle.std.specs.Prelude.{◌≡◌, ℕ, ◌<◌, List, [], ◌∷◌, length, true}
use Rattle.op_law.specs.Tables.{Heading}
use Rattle.op_rows.specs.RowMeaning.{RowMeaning}
use Rattle.op_rows.specs.Cells.{nth_cell}
use Rattle.row_parts.specs.RowCells.{Cell, map_cell, row_or}
use Rattle.row_parts.specs.Places.{pick, nulls, row_of_both, has_place, AreOnce, names_at}
use Rattle.op_key_join.specs.OtherPlaces.{others}

-- the listed columns are columns of the source, each listed once, and the target has them in this order
pub record DecomposeSingleFits (columns : List ℕ) (width : ℕ) (hs ht : List Heading) : Type 0 where
  pub source : Heading
  pub target : Heading
  pub source_is : hs ≡ source ∷ []
  pub target_is : ht ≡ target ∷ []
  pub source_wide : length source.columns ≡ width
  pub once : AreOnce columns
  pub within : (place : ℕ) → has_place columns place ≡ true → place < width
  pub columns_are : target.columns ≡ names_at columns source.columns

-- the values of the listed columns
abbrev pub part_of : List ℕ → Cell → Cell
part_of columns cell = map_cell (pick columns) cell

module _ (columns : List ℕ) (width : ℕ) where
  -- the values of the other columns, in the source's order
  abbrev pub rest_of : Cell → Cell
  rest_of cell = map_cell (pick (others columns width)) cell

  -- the source's row: the target's, with what the other columns have, and nulls where that is nothing
  abbrev pub with_rest : Cell → Cell → Cell
  with_rest part rest =
      map_cell (λ row. row_of_both columns (others columns width) row (row_or (nulls (length (others columns width))) rest)) part

  abbrev pub decompose_single : RowMeaning
  decompose_single = record {
    sources = 1;
    targets = 1;
    source_aux = 0;
    target_aux = 1;
    Fits = DecomposeSingleFits columns width;
    Closed = λ n. Unit {0};
    Related = λ s t. nth_cell 0 t ≡ part_of columns (nth_cell 0 s);
    forward = λ near s t. part_of columns (nth_cell 0 near) ∷ [];
    backward = λ near s t. with_rest (nth_cell 0 near) (rest_of (nth_cell 0 s)) ∷ [];
    aux_at_source = λ s t. [];
    aux_at_target = λ s t. rest_of (nth_cell 0 s) ∷ [];
    read_target = λ s aux. part_of columns (nth_cell 0 s) ∷ [];
    read_source = λ t aux. with_rest (nth_cell 0 t) (nth_cell 0 aux) ∷ [];
    reads_target = true;
    reads_source = true;
  }
