-- The laws of DECOMPOSE into one table.
use Rattle.std.proofs.Common.{◌≡◌, ℕ, ◌+◌, List, [], ◌∷◌, length, Some, None, inr, refl, sym, ◌∙◌, ap}
use Rattle.par_base.specs.declared.value.Value.{Value}
use Rattle.op_law.specs.Tables.{Heading}
use Rattle.op_rows.specs.Cells.{Cells, nth_cell, CellWide, AreCellsOf, CellSound}
use Rattle.op_rows.specs.inner.CellLemmas.{nth_sound}
use Rattle.op_rows.specs.RowMeaning.{RowHalf, RowLaws, flip_row}
use Rattle.row_parts.specs.RowCells.{Cell, row_or}
use Rattle.row_parts.specs.Places.{nulls}
use Rattle.row_parts.specs.inner.PlaceLemmas.{length-names, first_join, join_parts}
use Rattle.row_parts.specs.Partition.{Divides}
use Rattle.op_key_join.specs.Sides.{OneCell, one_cell, one_wide}
use Rattle.op_key_join.specs.OtherPlaces.{others, others_divide}
use Rattle.op_key_join.specs.inner.PartLemmas.{pick_wide, pick_may, or_nulls_wide, or_nulls_may, both_wide, both_may}
use Rattle.op_key_join.specs.DecomposeSingle.{DecomposeSingleFits, part_of, rest_of, with_rest, decompose_single}

module _ (columns : List ℕ) (width : ℕ) where
  abbrev rest : List ℕ
  rest = others columns width

  -- the listed columns and the others divide the source's row
  pub single_divides : (hs ht : List Heading) → DecomposeSingleFits columns width hs ht → Divides columns rest width
  single_divides hs ht fits = others_divide columns width fits.once fits.within

  -- what either side has
  pub source_of : (hs ht : List Heading) (cs : Cells) → DecomposeSingleFits columns width hs ht → AreCellsOf hs cs → OneCell width cs
  source_of hs ht cs fits of = one_cell width fits.source hs cs fits.source_is fits.source_wide of

  target_long : (hs ht : List Heading) (fits : DecomposeSingleFits columns width hs ht) → length fits.target.columns ≡ length columns
  target_long hs ht fits = ap length fits.columns_are ∙ length-names columns fits.source.columns

  pub target_of : (hs ht : List Heading) (cs : Cells) → DecomposeSingleFits columns width hs ht → AreCellsOf ht cs → OneCell (length columns) cs
  target_of hs ht cs fits of = one_cell (length columns) fits.target ht cs fits.target_is (target_long hs ht fits) of

  -- the sides that the mappings give are as wide as they are to be
  pub part_wide : (hs ht : List Heading) (c : Cell) → DecomposeSingleFits columns width hs ht → AreCellsOf ht (part_of columns c ∷ [])
  part_wide hs ht c fits =
      one_wide (length columns) fits.target ht (part_of columns c) fits.target_is (target_long hs ht fits) (pick_wide columns c)

  with_rest_long : (part kept : Cell) → width ≡ length columns + length rest → CellWide width (with_rest columns width part kept)
  with_rest_long None kept wide = tt
  with_rest_long (Some row) kept wide = both_wide columns rest row (row_or (nulls (length rest)) kept) ∙ sym wide

  pub source_wide : (hs ht : List Heading) (part kept : Cell) → DecomposeSingleFits columns width hs ht → AreCellsOf hs (with_rest columns width part kept ∷ [])
  source_wide hs ht part kept fits =
      one_wide width fits.source hs (with_rest columns width part kept) fits.source_is fits.source_wide
      (with_rest_long part kept (single_divides hs ht fits).wide)

  -- the listed columns of the row that is made are the target's
  pub part_back : (part kept : Cell) → Divides columns rest width → CellWide (length columns) part → CellWide (length rest) kept → part ≡ part_of columns (with_rest columns width part kept)
  part_back None kept divides wide other = refl
  part_back (Some row) kept divides wide other =
      ap (λ (vs : List Value). Some vs) (sym (first_join columns rest divides.divided row (row_or (nulls (length rest)) kept) wide (or_nulls_wide (length rest) kept other)))

  -- and both parts of a row give it back
  pub both_back : (c : Cell) → Divides columns rest width → CellWide width c → with_rest columns width (part_of columns c) (rest_of columns width c) ≡ c
  both_back None divides wide = refl
  both_back (Some row) divides wide = ap (λ (vs : List Value). Some vs) (join_parts columns rest divides.divided row (wide ∙ divides.wide))

  source_back : (t c : Cell) → Divides columns rest width → CellWide width c → t ≡ part_of columns c → with_rest columns width t (rest_of columns width c) ≡ c
  source_back t c divides wide is = ap (λ (d : Cell). with_rest columns width d (rest_of columns width c)) is ∙ both_back c divides wide

  -- what may stand gives what may stand
  with_rest_may : (n : ℕ) (part kept : Cell) → CellSound n part → CellSound n kept → CellSound n (with_rest columns width part kept)
  with_rest_may n None kept sound other = tt
  with_rest_may n (Some row) kept sound other =
      both_may n columns rest row (row_or (nulls (length rest)) kept) sound (or_nulls_may n (length rest) kept other)

  forward_half : RowHalf (decompose_single columns width)
  forward_half = record {
    related = λ hs ht near s t pair near_of. refl;
    wide = λ hs ht near s t pair near_of. part_wide hs ht (nth_cell 0 near) pair.fits;
    still = λ hs ht s t pair. ap (λ (c : Cell). c ∷ []) (sym pair.related) ∙ (target_of hs ht t pair.fits pair.target_of).is;
    below = λ hs ht near s t n may. (pick_may n columns (nth_cell 0 near) (nth_sound n 0 near may.near_sound), tt);
    recovered = λ hs ht s t reads pair. ap (λ (c : Cell). c ∷ []) (sym pair.related) ∙ (target_of hs ht t pair.fits pair.target_of).is;
    readable = λ hs ht fits. inr refl;
    aux_long = λ hs ht s t pair. refl;
    aux_nothing = refl;
    fits_long = λ hs ht fits. (ap length fits.source_is, ap length fits.target_is);
    closed_more = λ n k more closed. tt;
    empty = refl;
  }

  backward_half : RowHalf (flip_row (decompose_single columns width))
  backward_half = record {
    related = λ ht hs near t s pair near_of.
        part_back (nth_cell 0 near) (rest_of columns width (nth_cell 0 s)) (single_divides hs ht pair.fits)
        (target_of hs ht near pair.fits near_of).wide
        (pick_wide rest (nth_cell 0 s));
    wide = λ ht hs near t s pair near_of. source_wide hs ht (nth_cell 0 near) (rest_of columns width (nth_cell 0 s)) pair.fits;
    still = λ ht hs t s pair.
        let one = source_of hs ht s pair.fits pair.target_of in
        ap (λ (c : Cell). c ∷ []) (source_back (nth_cell 0 t) (nth_cell 0 s) (single_divides hs ht pair.fits) one.wide pair.related) ∙ one.is;
    below = λ ht hs near t s n may. (
      with_rest_may n (nth_cell 0 near) (rest_of columns width (nth_cell 0 s)) (nth_sound n 0 near may.near_sound)
          (pick_may n rest (nth_cell 0 s) (nth_sound n 0 s may.target_sound)),
      tt,
    );
    recovered = λ ht hs t s reads pair.
        let one = source_of hs ht s pair.fits pair.target_of in
        ap (λ (c : Cell). c ∷ []) (source_back (nth_cell 0 t) (nth_cell 0 s) (single_divides hs ht pair.fits) one.wide pair.related) ∙ one.is;
    readable = λ ht hs fits. inr refl;
    aux_long = λ ht hs t s pair. refl;
    aux_nothing = refl;
    fits_long = λ ht hs fits. (ap length fits.target_is, ap length fits.source_is);
    closed_more = λ n k more closed. tt;
    empty = refl;
  }

  pub decompose_single_laws : RowLaws (decompose_single columns width)
  decompose_single_laws = (forward_half, backward_half)
