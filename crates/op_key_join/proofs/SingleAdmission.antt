-- Which rows DECOMPOSE into one table admits.
use Rattle.std.proofs.Common.{◌≡◌, ℕ, List, [], ◌∷◌, length, Some, sym, ◌∙◌, ap, subst}
use Rattle.op_rows.specs.Cells.{Cells, nth_cell, CellWide, AreCellsOf}
use Rattle.op_rows.specs.RowMeaning.{flip_row}
use Rattle.op_rows.specs.RowCalls.{AdmitsRows}
use Rattle.row_parts.specs.RowCells.{Cell}
use Rattle.op_key_join.specs.OtherPlaces.{others}
use Rattle.op_key_join.specs.inner.PartLemmas.{pick_wide}
use Rattle.op_key_join.specs.DecomposeSingle.{part_of, rest_of, with_rest, decompose_single}
use Rattle.op_key_join.specs.inner.DecomposeSingleLaws.{single_divides, target_of, part_wide, source_wide, part_back}
use Rattle.op_rows.specs.declared.near_side.NearSide.{NearSide}
use Rattle.op_rows.specs.declared.near_side.NearSide.TheVariants.{Source, Target}
use Rattle.op_rows.specs.NearSides.{seen_from}

module _ (columns : List ℕ) (width : ℕ) where
  -- the listed columns of a source belong to it where nothing is kept beside
  admits_part : (near far aux : Cells) → far ≡ part_of columns (nth_cell 0 near) ∷ [] → aux ≡ [] → AdmitsRows (decompose_single columns width) near aux (Some far)
  admits_part near far aux made kept = (
    made,
    λ hs ht fits near_of. record {
      pair = record {
        fits = fits;
        related = ap (nth_cell 0) made;
        source_of = near_of;
        target_of = subst (λ (cs : Cells). AreCellsOf ht cs) (sym made) (part_wide columns width hs ht (nth_cell 0 near) fits);
      };
      aux_is = kept;
    },
  )

  -- the row with the values that are kept beside belongs to these where they are its other columns
  admits_rest : (near far aux : Cells) → far ≡ with_rest columns width (nth_cell 0 near) (nth_cell 0 aux) ∷ [] → aux ≡ rest_of columns width (nth_cell 0 far) ∷ [] → AdmitsRows (flip_row (decompose_single columns width)) near aux (Some far)
  admits_rest near far aux made kept = (
    made,
    λ ht hs fits near_of.
        let wide : CellWide (length (others columns width)) (nth_cell 0 aux) =
        subst (λ (c : Cell). CellWide (length (others columns width)) c) (sym (ap (nth_cell 0) kept)) (pick_wide (others columns width) (nth_cell 0 far)) in
        let back = part_back columns width (nth_cell 0 near) (nth_cell 0 aux) (single_divides columns width hs ht fits) (target_of columns width hs ht near fits near_of).wide wide in
        record {
          pair = record {
            fits = fits;
            related = back ∙ ap (λ (cs : Cells). part_of columns (nth_cell 0 cs)) (sym made);
            source_of = near_of;
            target_of = subst (λ (cs : Cells). AreCellsOf hs cs) (sym made) (source_wide columns width hs ht (nth_cell 0 near) (nth_cell 0 aux) fits);
          };
          aux_is = kept;
        },
  )

  -- what is read back belongs to either side where the rest is kept beside
  pub admits_single : (side : NearSide) (near far aux : Cells) → far ≡ (seen_from side (decompose_single columns width)).read_target near aux
      → aux ≡ (seen_from side (decompose_single columns width)).aux_at_source near far → AdmitsRows (seen_from side (decompose_single columns width)) near aux (Some far)
  admits_single Source = admits_part
  admits_single Target = admits_rest
