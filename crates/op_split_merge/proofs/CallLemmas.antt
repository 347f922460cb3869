-- What the calls of SPLIT suppose, and which rows it admits.
use Rattle.std.proofs.Common.{◌≡◌, ℕ, List, Bool, true, not, ◌&&◌, ◌||◌, if◌then◌else◌, Option, Some, None, refl, sym, ◌∙◌, ap, subst}
use Rattle.par_base.specs.declared.value.Value.{Value}
use Rattle.expr_lang.specs.Terms.{Term}
use Rattle.op_law.specs.Tables.{Heading, widths}
use Rattle.op_rows.specs.Cells.{Cells, nth_cell, CellWide, AreCellsOf}
use Rattle.op_rows.specs.RowMeaning.{flip_row}
use Rattle.op_rows.specs.RowCalls.{NearRows, SomeRows, MayRows, StoredRows, AdmitsRows}
use Rattle.row_parts.specs.RowCells.{Cell, kept_if}
use Rattle.op_split_merge.specs.Twins.{Test, meets, wants, are_separated, first_to, second_to}
use Rattle.op_split_merge.specs.Sides.{targets_of, source_wide, target_wide}
use Rattle.op_split_merge.specs.Split.{reads_within, SplitFits, split_read_target, split_read_source, split}
use Rattle.op_split_merge.specs.inner.SplitLaws.{source_of, target_of, split_laws}
use Rattle.op_split_merge.specs.inner.Calls.{CanTest, CanTestBoth, TestsWithin, TargetBelongs, SourceBelongs}

-- a condition that reads rows of so many values can be tested at such a row
test_at : (width : ℕ) (condition : Option (Term ℕ)) (cell : Cell) → reads_within condition width ≡ true → CellWide width cell → CanTest condition cell
test_at width condition None reads wide = tt
test_at width condition (Some row) reads wide = subst (λ (w : ℕ). reads_within condition w ≡ true) (sym wide) reads

-- both conditions
pub can_test : (width : ℕ) (first : Term ℕ) (second : Option (Term ℕ)) (cell : Cell) → TestsWithin width first second → CellWide width cell → CanTestBoth first second cell
can_test width first second cell tests wide =
    (test_at width (Some first) cell tests.first_reads wide, test_at width second cell tests.second_reads wide)

-- the targets that are read back are as wide as their cells
read_wide : (second : Option (Term ℕ)) (width : ℕ) (ht : List Heading) (r s : Cell) → widths ht ≡ targets_of second width width
    → CellWide width (nth_cell 0 (targets_of second r s)) → CellWide width (nth_cell 1 (targets_of second r s)) → AreCellsOf ht (targets_of second r s)
read_wide None width ht r s e wide other_wide = target_wide None width ht r None e wide tt
read_wide (Some q) width ht r s e wide other_wide = target_wide (Some q) width ht r s e wide other_wide

module _ (width : ℕ) (first : Term ℕ) (second : Option (Term ℕ)) where
  pub tests_within : (hs ht : List Heading) → SplitFits width first second hs ht → TestsWithin width first second
  tests_within hs ht fits = record { first_reads = fits.first_reads; second_reads = fits.second_reads }

  -- at the rows of either side
  test_source : (hs ht : List Heading) (cs : Cells) → SplitFits width first second hs ht → AreCellsOf hs cs → CanTestBoth first second (nth_cell 0 cs)
  test_source hs ht cs fits of = can_test width first second (nth_cell 0 cs) (tests_within hs ht fits) (source_of width first second hs ht cs fits of).wide

  test_first : (hs ht : List Heading) (cs : Cells) → SplitFits width first second hs ht → AreCellsOf ht cs → CanTestBoth first second (nth_cell 0 cs)
  test_first hs ht cs fits of = can_test width first second (nth_cell 0 cs) (tests_within hs ht fits) (target_of width first second hs ht cs fits of).first_wide

  test_second : (hs ht : List Heading) (cs : Cells) → SplitFits width first second hs ht → AreCellsOf ht cs → CanTestBoth first second (nth_cell 1 cs)
  test_second hs ht cs fits of = can_test width first second (nth_cell 1 cs) (tests_within hs ht fits) (target_of width first second hs ht cs fits of).second_wide

  -- where the calls suppose related rows
  pub may_new : (near s t : Cells) → MayRows (split width first second) near s t → CanTestBoth first second (nth_cell 0 near)
  may_new near s t may = test_source may.hs may.ht near may.pair.fits may.near_of

  pub may_first : (near s t : Cells) → MayRows (split width first second) near s t → CanTestBoth first second (nth_cell 0 t)
  may_first near s t may = test_first may.hs may.ht t may.pair.fits may.pair.target_of

  pub may_second : (near s t : Cells) → MayRows (split width first second) near s t → CanTestBoth first second (nth_cell 1 t)
  may_second near s t may = test_second may.hs may.ht t may.pair.fits may.pair.target_of

  pub some_source : (s t : Cells) → SomeRows (split width first second) s t → CanTestBoth first second (nth_cell 0 s)
  some_source s t some = test_source some.hs some.ht s some.pair.fits some.pair.source_of

  pub some_first : (s t : Cells) → SomeRows (split width first second) s t → CanTestBoth first second (nth_cell 0 t)
  some_first s t some = test_first some.hs some.ht t some.pair.fits some.pair.target_of

  pub some_second : (s t : Cells) → SomeRows (split width first second) s t → CanTestBoth first second (nth_cell 1 t)
  some_second s t some = test_second some.hs some.ht t some.pair.fits some.pair.target_of

  pub stored_source : (near aux : Cells) → StoredRows (split width first second) near aux → CanTestBoth first second (nth_cell 0 near)
  stored_source near aux stored = test_source stored.hs stored.ht near stored.belongs.pair.fits stored.belongs.pair.source_of

  pub near_source : (near : Cells) → NearRows (split width first second) near → CanTestBoth first second (nth_cell 0 near)
  near_source near some = test_source some.hs some.ht near some.fits some.near_of

  pub near_wide : (near : Cells) → NearRows (split width first second) near → CellWide width (nth_cell 0 near)
  near_wide near some = (source_of width first second some.hs some.ht near some.fits some.near_of).wide

  -- targets that belong are admitted
  pub admits_target : (near far aux : Cells) → far ≡ split_read_target first second near aux → TargetBelongs width first second near aux far → AdmitsRows (split width first second) near aux (Some far)
  admits_target near far aux made belongs = (
    made,
    λ hs ht fits near_of.
        let wide : CellWide width (nth_cell 0 (split_read_target first second near aux)) = subst (λ (cs : Cells). CellWide width (nth_cell 0 cs)) made belongs.first_wide in
        let other_wide : CellWide width (nth_cell 1 (split_read_target first second near aux)) = subst (λ (cs : Cells). CellWide width (nth_cell 1 cs)) made belongs.second_wide in
        record {
          pair = record {
            fits = fits;
            related = belongs.related;
            source_of = near_of;
            target_of = subst (λ (cs : Cells). AreCellsOf ht cs) (sym made) (read_wide second width ht _ _ fits.target wide other_wide);
          };
          aux_is = belongs.aux_is;
        },
  )

  -- and where what is read doesn't belong, nothing does
  pub admits_no_target : (near far aux : Cells) → far ≡ split_read_target first second near aux → (TargetBelongs width first second near aux far → ⊥) → AdmitsRows (split width first second) near aux None
  admits_no_target near far aux made none hs ht other belongs =
      let fits = belongs.pair.fits in
      let cells = target_of width first second hs ht other fits belongs.pair.target_of in
      let read : split_read_target first second near aux ≡ other =
      ap (λ (cs : Cells). split_read_target first second near cs) belongs.aux_is ∙ (split_laws width first second).0.recovered hs ht near other refl belongs.pair in
      let is : far ≡ other = made ∙ read in
      none (subst (λ (cs : Cells). TargetBelongs width first second near aux cs) (sym is)
      (record { first_wide = cells.first_wide; second_wide = cells.second_wide; related = belongs.pair.related; aux_is = belongs.aux_is }))

  -- likewise for the source
  pub admits_source : (near far aux : Cells) → far ≡ split_read_source near aux → SourceBelongs width first second near aux far → AdmitsRows (flip_row (split width first second)) near aux (Some far)
  admits_source near far aux made belongs = (
    made,
    λ ht hs fits near_of.
        let wide : CellWide width (nth_cell 0 (split_read_source near aux)) = subst (λ (cs : Cells). CellWide width (nth_cell 0 cs)) made belongs.wide in
        record {
          pair = record {
            fits = fits;
            related = belongs.related;
            source_of = near_of;
            target_of = subst (λ (cs : Cells). AreCellsOf hs cs) (sym made) (source_wide width hs _ fits.source wide);
          };
          aux_is = belongs.aux_is;
        },
  )

  pub admits_no_source : (near far aux : Cells) → far ≡ split_read_source near aux → (SourceBelongs width first second near aux far → ⊥) → AdmitsRows (flip_row (split width first second)) near aux None
  admits_no_source near far aux made none ht hs other belongs =
      let fits = belongs.pair.fits in
      let cells = source_of width first second hs ht other fits belongs.pair.target_of in
      let read : split_read_source near aux ≡ other =
      ap (λ (cs : Cells). split_read_source near cs) belongs.aux_is ∙ (split_laws width first second).1.recovered ht hs near other refl belongs.pair in
      let is : far ≡ other = made ∙ read in
      none (subst (λ (cs : Cells). SourceBelongs width first second near aux cs) (sym is)
      (record { wide = cells.wide; related = belongs.pair.related; aux_is = belongs.aux_is }))

-- the targets' new rows, from what is found of a new row of the source and the targets' old rows
pub targets_made : (condition : Option (Term ℕ)) (p q : Test) (new r s : Cell) (row : List Value) (meets_first meets_second wants_first wants_second goes_first goes_second : Bool) (new_first new_own new_second : Cell) (made : Cells)
    → new ≡ Some row → meets_first ≡ meets p new → meets_second ≡ meets q new → wants_first ≡ wants p r s meets_first → wants_second ≡ wants q s r meets_second
    → goes_first ≡ (wants_first || (meets_first && not wants_second)) → goes_second ≡ (wants_second || (meets_second && not wants_first))
    → new_first ≡ kept_if goes_first new → new_own ≡ kept_if goes_second new → new_second ≡ (if are_separated r s && goes_first then s else new_own)
    → made ≡ targets_of condition new_first new_second → made ≡ targets_of condition (first_to p q new r s) (second_to p q new r s)
targets_made condition p q new r s row meets_p meets_q wants_p wants_q goes_p goes_q shown_p own shown_q made is e_mf e_ms e_wf e_ws e_gf e_gs e_nf e_no e_ns e = rw (e, e_ns, e_no, e_nf, e_gs, e_gf, e_ws, e_wf, e_ms, e_mf, is) refl
