-- Which rows JOIN ON PK admits.
use Rattle.std.proofs.Common.{◌≡◌, ℕ, [], ◌∷◌, take, drop, Some, None, refl, sym, ap, subst}
use Rattle.op_rows.specs.Cells.{Cells, nth_cell, CellWide, AreCellsOf}
use Rattle.op_rows.specs.RowMeaning.{flip_row}
use Rattle.op_rows.specs.RowCalls.{AdmitsRows}
use Rattle.row_parts.specs.RowCells.{Cell, or_else, map_cell}
use Rattle.op_key_join.specs.JoinPk.{joined, rows_alone, sources_of, join_pk}
use Rattle.op_key_join.specs.inner.JoinPkLaws.{source_of, target_of, joined_wide, sources_wide, part_long, rest_long, parts_join}
use Rattle.op_key_join.specs.inner.Calls.{MayStandAlone}
use Rattle.op_rows.specs.declared.near_side.NearSide.{NearSide}
use Rattle.op_rows.specs.declared.near_side.NearSide.TheVariants.{Source, Target}
use Rattle.op_rows.specs.NearSides.{seen_from}

-- a part, or else a row that stands alone
or_wide : (width : ℕ) (x y : Cell) → CellWide width x → CellWide width y → CellWide width (or_else x y)
or_wide width None y wide other = other
or_wide width (Some row) y wide other = wide

module _ (first second : ℕ) where
  -- the joined row belongs to the sources where nothing is kept beside
  admits_joined : (near far aux : Cells) → far ≡ joined (nth_cell 0 near) (nth_cell 1 near) ∷ [] → aux ≡ [] → AdmitsRows (join_pk first second) near aux (Some far)
  admits_joined near far aux made kept = (
    made,
    λ hs ht fits near_of.
        let two = source_of first second hs ht near fits near_of in
        record {
          pair = record {
            fits = fits;
            related = ap (nth_cell 0) made;
            source_of = near_of;
            target_of = subst (λ (cs : Cells). AreCellsOf ht cs) (sym made) (joined_wide first second hs ht (nth_cell 0 near) (nth_cell 1 near) fits two.first_wide two.second_wide);
          };
          aux_is = kept;
        },
  )

  -- the parts of the target's row, or rows that stand alone, belong to it where these are kept beside
  admits_sources : (near far aux : Cells) → MayStandAlone first second (nth_cell 0 aux) (nth_cell 1 aux) → far ≡ sources_of first (nth_cell 0 near) (nth_cell 0 aux) (nth_cell 1 aux)
      → aux ≡ rows_alone far near → AdmitsRows (flip_row (join_pk first second)) near aux (Some far)
  admits_sources near far aux may made kept = (
    made,
    λ ht hs fits near_of.
        let one = target_of first second hs ht near fits near_of in
        let joins = parts_join first second (nth_cell 0 near) (nth_cell 0 aux) (nth_cell 1 aux) (λ none. may.2) in
        record {
          pair = record {
            fits = fits;
            related = subst (λ (cs : Cells). nth_cell 0 near ≡ joined (nth_cell 0 cs) (nth_cell 1 cs)) (sym made) joins;
            source_of = near_of;
            target_of = subst (λ (cs : Cells). AreCellsOf hs cs) (sym made)
                (sources_wide first second hs ht (or_else (map_cell (take first) (nth_cell 0 near)) (nth_cell 0 aux)) (or_else (map_cell (drop first) (nth_cell 0 near)) (nth_cell 1 aux)) fits
                (or_wide first (map_cell (take first) (nth_cell 0 near)) (nth_cell 0 aux) (part_long first second (nth_cell 0 near) one.wide) may.0)
                (or_wide second (map_cell (drop first) (nth_cell 0 near)) (nth_cell 1 aux) (rest_long first second (nth_cell 0 near) one.wide) may.1));
          };
          aux_is = kept;
        },
  )

  -- what is read back belongs to either side where the rest is kept beside
  pub admits_join : (side : NearSide) (near far aux : Cells) → (side ≡ Target → MayStandAlone first second (nth_cell 0 aux) (nth_cell 1 aux)) → far ≡ (seen_from side (join_pk first second)).read_target near aux
      → aux ≡ (seen_from side (join_pk first second)).aux_at_source near far → AdmitsRows (seen_from side (join_pk first second)) near aux (Some far)
  admits_join Source near far aux may = admits_joined near far aux
  admits_join Target near far aux may = admits_sources near far aux (may refl)
