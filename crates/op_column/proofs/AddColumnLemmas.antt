-- Which rows ADD COLUMN takes and admits.
use Rattle.std.proofs.Common.{◌≡◌, ℕ, ◌≤◌, List, [], ◌∷◌, true, Option, Some, None, refl, sym, ◌∙◌, ap, subst, arith}
use Rattle.std.proofs.lemmas.Bool.{false≢true}
use Rattle.par_base.specs.declared.value.Value.{Value}
use Rattle.expr_lang.specs.Terms.{Term}
use Rattle.expr_lang.specs.Val.{fits_row}
use Rattle.op_rows.specs.Cells.{Cells, first_cell, CellWide, AreCellsOf}
use Rattle.op_rows.specs.RowCalls.{AdmitsRows, MayRows, StoredRows}
use Rattle.op_column.specs.OneTable.{one_cell}
use Rattle.row_parts.specs.RowEdits.{value_at-insert}
use Rattle.op_column.specs.inner.Calls.{is_beside, MayAdd, TakesPlace}
use Rattle.op_column.specs.AddColumn.{kept_value, restored, without_column, column_alone, add_column}
use Rattle.op_column.specs.inner.AddColumnLaws.{source_wide, forward_wide, forward_related}

-- what stands beside is the column of the row that is read back
kept_is : (place width : ℕ) (c : Option (List Value)) (aux : Cells) → CellWide width c → place ≤ width → is_beside c aux ≡ true → aux ≡ column_alone place (restored place c (first_cell aux)) ∷ []
kept_is place width (Some row) (Some (v ∷ []) ∷ []) wide within beside = ap (λ (x : Value). Some (x ∷ []) ∷ []) (sym (value_at-insert row place v (omega (arith, wide, within))))
kept_is place width (Some row) (Some (v ∷ []) ∷ (d ∷ ds)) wide within beside = absurd (false≢true beside)
kept_is place width (Some row) (Some (v ∷ (w ∷ ws)) ∷ ds) wide within beside = absurd (false≢true beside)
kept_is place width (Some row) (Some [] ∷ ds) wide within beside = absurd (false≢true beside)
kept_is place width (Some row) (None ∷ ds) wide within beside = absurd (false≢true beside)
kept_is place width (Some row) [] wide within beside = absurd (false≢true beside)
kept_is place width None (None ∷ []) wide within beside = refl
kept_is place width None (None ∷ (d ∷ ds)) wide within beside = absurd (false≢true beside)
kept_is place width None (Some kept ∷ ds) wide within beside = absurd (false≢true beside)
kept_is place width None [] wide within beside = absurd (false≢true beside)

-- a row as wide as the source takes the column
wide_adds : (place : ℕ) (e : Term ℕ) (width : ℕ) (c : Option (List Value)) → CellWide width c → place ≤ width → fits_row e width ≡ true → MayAdd place e c
wide_adds place e width None wide within reads = tt
wide_adds place e width (Some row) wide within reads = (omega (arith, wide, within), subst (λ (n : ℕ). fits_row e n ≡ true) (sym wide) reads)

wide_takes : (place width : ℕ) (c : Option (List Value)) → CellWide width c → place ≤ width → TakesPlace place c
wide_takes place width None wide within = tt
wide_takes place width (Some row) wide within = omega (arith, wide, within)

module _ (place : ℕ) (e : Term ℕ) where
  -- what a mapping forward may be given takes the column
  pub may_add : (near s t : Cells) → MayRows (add_column place e) near s t → MayAdd place e (first_cell near)
  may_add near s t may =
      wide_adds place e _ (first_cell near) (one_cell _ may.hs near (source_wide place e may.hs may.ht may.pair.fits) may.near_of).wide may.pair.fits.within may.pair.fits.reads

  -- and so does a stored source
  pub may_take : (near aux : Cells) → StoredRows (add_column place e) near aux → TakesPlace place (first_cell near)
  may_take near aux stored =
      let pair = stored.belongs.pair in
      wide_takes place _ (first_cell near) (one_cell _ stored.hs near (source_wide place e stored.hs stored.ht pair.fits) pair.source_of).wide pair.fits.within

  -- a value for each row and for no other is admitted
  pub admits_beside : (near far aux : Cells) → far ≡ restored place (first_cell near) (first_cell aux) ∷ [] → is_beside (first_cell near) aux ≡ true → AdmitsRows (add_column place e) near aux (Some far)
  admits_beside near far aux made beside = (
    made,
    λ hs ht fits near_of.
        let value : List Value → Value = λ row. kept_value (first_cell aux) in
        record {
          pair = record {
            fits = fits;
            related = forward_related place e hs ht value near fits near_of ∙ ap (λ (cs : Cells). without_column place (first_cell cs)) (sym made);
            source_of = near_of;
            target_of = subst (λ (cs : Cells). AreCellsOf ht cs) (sym made) (forward_wide place e hs ht value near fits near_of);
          };
          aux_is = kept_is place _ (first_cell near) aux (one_cell _ hs near (source_wide place e hs ht fits) near_of).wide fits.within beside ∙ ap (λ (cs : Cells). column_alone place (first_cell cs) ∷ []) (sym made);
        },
  )
