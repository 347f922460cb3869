-- Which rows DECOMPOSE ON PK admits.
use Rattle.std.proofs.Common.{◌≡◌, ℕ, zero, suc, ◌+◌, ◌==◌, List, [], ◌∷◌, length, Some, None, refl, sym, ◌∙◌, ap, subst, rules}
use Rattle.par_base.specs.declared.value.Value.{Value}
use Rattle.par_base.specs.declared.value.Value.TheVariants.{Null}
use Rattle.op_rows.specs.Cells.{Cells, nth_cell, CellWide, AreCellsOf}
use Rattle.op_rows.specs.RowMeaning.{flip_row}
use Rattle.op_rows.specs.RowCalls.{AdmitsRows}
use Rattle.row_parts.specs.RowCells.{Cell, is_there, value_or, by_test}
use Rattle.row_parts.specs.Places.{nulls, value_for, filled, value_of_both}
use Rattle.op_key_join.specs.Nulls.{is_null, nulls_null, null_nulls}
use Rattle.op_key_join.specs.DecomposePk.{null_rows, row_of_neither, rows_of_neither, row_of_parts, HasParts, joined_parts, shown_parts, decompose_pk}
use Rattle.op_key_join.specs.inner.DecomposePkLaws.{source_of, parts_wide, source_wide, has_shown, has_joined, neither_null, neither_wide}
use Rattle.op_key_join.specs.inner.Calls.{MayBeOfNeither}
use Rattle.op_rows.specs.declared.near_side.NearSide.{NearSide}
use Rattle.op_rows.specs.declared.near_side.NearSide.TheVariants.{Source, Target}
use Rattle.op_rows.specs.NearSides.{seen_from}

-- of nulls there are only nulls
null_for : (places : List ℕ) (count place : ℕ) (out : Value) → out ≡ Null → value_or out (value_for places (nulls count) place) ≡ Null
null_for [] count place out h = h
null_for (p ∷ ps) zero place out h = h
null_for (p ∷ ps) (suc count) place out h = by_test (p == place) (λ e. rw e refl) (λ e. rw e (null_for ps count place out h))

filled_nulls : (count from : ℕ) (f : ℕ → Value) → ((place : ℕ) → f place ≡ Null) → filled count from f ≡ nulls count
filled_nulls zero from f null = refl
filled_nulls (suc count) from f null = let here = null from in let rest = filled_nulls count (from + 1) f null in cc

-- the row of two null parts is null
both_nulls : (first second : List ℕ) → row_of_parts first second None None ≡ nulls (length first + length second)
both_nulls first second =
    filled_nulls (length first + length second) 0 (value_of_both first second (nulls (length first)) (nulls (length second)))
    (λ place. null_for first (length first) place _ (null_for second (length second) place Null refl))

module _ (first second : List ℕ) where
  -- an identifier in neither target has a null row
  null_has : (c : Cell) → MayBeOfNeither (length first) (length second) c → CellWide (length first + length second) c × HasParts first second c None None
  null_has None may = (tt, (refl, refl))
  null_has (Some row) may = (may.0, null_nulls row may.1 ∙ ap nulls may.0 ∙ sym (both_nulls first second))

  has_null : (c : Cell) → CellWide (length first + length second) c → HasParts first second c None None → MayBeOfNeither (length first) (length second) c
  has_null None wide has = tt
  has_null (Some row) wide has = (wide, ap is_null (has ∙ both_nulls first second) ∙ nulls_null (length first + length second))

  -- what is shown belongs to the source where the null rows are kept beside
  admits_shown : (near far aux : Cells) → far ≡ shown_parts first second (nth_cell 0 near) (nth_cell 0 aux) (nth_cell 1 aux)
      → aux ≡ null_rows far → AdmitsRows (decompose_pk first second) near aux (Some far)
  admits_shown near far aux made kept = (
    made,
    λ hs ht fits near_of.
        let has = has_shown first second (nth_cell 0 near) (is_there (nth_cell 0 aux)) (is_there (nth_cell 1 aux)) fits.divided (source_of first second hs ht near fits near_of).wide in
        record {
          pair = record {
            fits = fits;
            related = subst (λ (cs : Cells). HasParts first second (nth_cell 0 near) (nth_cell 0 cs) (nth_cell 1 cs)) (sym made) has;
            source_of = near_of;
            target_of = subst (λ (cs : Cells). AreCellsOf ht cs) (sym made) (parts_wide first second hs ht (nth_cell 0 near) (is_there (nth_cell 0 aux)) (is_there (nth_cell 1 aux)) fits);
          };
          aux_is = kept;
        },
  )

  -- the joined row belongs to the targets where the row of neither is null and kept beside
  admits_parts : (near far aux : Cells) → MayBeOfNeither (length first) (length second) (nth_cell 0 aux) → far ≡ joined_parts first second (nth_cell 0 near) (nth_cell 1 near) (nth_cell 0 aux) ∷ []
      → aux ≡ rows_of_neither far near → AdmitsRows (flip_row (decompose_pk first second)) near aux (Some far)
  admits_parts near far aux may made kept = (
    made,
    λ ht hs fits near_of.
        let null = null_has (nth_cell 0 aux) may in
        record {
          pair = record {
            fits = fits;
            related = subst (λ (cs : Cells). HasParts first second (nth_cell 0 cs) (nth_cell 0 near) (nth_cell 1 near)) (sym made) (has_joined first second (nth_cell 0 near) (nth_cell 1 near) (nth_cell 0 aux) null.1);
            source_of = near_of;
            target_of = subst (λ (cs : Cells). AreCellsOf hs cs) (sym made) (source_wide first second hs ht (nth_cell 0 near) (nth_cell 1 near) (nth_cell 0 aux) fits null.0);
          };
          aux_is = kept;
        },
  )

  -- what is read back belongs to either side where the rest is kept beside
  pub admits_pk : (side : NearSide) (near far aux : Cells) → (side ≡ Target → MayBeOfNeither (length first) (length second) (nth_cell 0 aux)) → far ≡ (seen_from side (decompose_pk first second)).read_target near aux
      → aux ≡ (seen_from side (decompose_pk first second)).aux_at_source near far → AdmitsRows (seen_from side (decompose_pk first second)) near aux (Some far)
  admits_pk Source near far aux may = admits_shown near far aux
  admits_pk Target near far aux may = admits_parts near far aux (may refl)

  -- another row of neither belongs to no source
  pub admits_none_neither : (side : NearSide) (near aux : Cells) → side ≡ Target → (MayBeOfNeither (length first) (length second) (nth_cell 0 aux) → ⊥)
      → AdmitsRows (seen_from side (decompose_pk first second)) near aux None
  admits_none_neither Source near aux is none ht hs far belongs = search rules
  admits_none_neither Target near aux is none ht hs far belongs =
      let is : nth_cell 0 aux ≡ row_of_neither (nth_cell 0 far) (nth_cell 0 near) (nth_cell 1 near) = ap (nth_cell 0) belongs.aux_is in
      none (subst (λ (c : Cell). MayBeOfNeither (length first) (length second) c) (sym is)
      (has_null (row_of_neither (nth_cell 0 far) (nth_cell 0 near) (nth_cell 1 near))
      (neither_wide (length first + length second) (nth_cell 0 far) (nth_cell 0 near) (nth_cell 1 near) (source_of first second hs ht far belongs.pair.fits belongs.pair.target_of).wide)
      (neither_null first second (nth_cell 0 far) (nth_cell 0 near) (nth_cell 1 near) belongs.pair.related)))
