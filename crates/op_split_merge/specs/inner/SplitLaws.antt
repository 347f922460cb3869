-- The laws of SPLIT and of MERGE.
use Rattle.std.specs.Prelude.{◌≡◌, ℕ, ◌≤◌, List, [], ◌∷◌, length, Option, Some, None, refl}
use Rattle.std.proofs.Common.{inr, ◌∙◌, ap, subst}
use Rattle.expr_lang.specs.Terms.{Term}
use Rattle.expr_lang.specs.Val.{holds_at}
use Rattle.op_law.specs.Tables.{Heading}
use Rattle.op_law.proofs.SoundTermLaws.{term_more}
use Rattle.op_rows.specs.Cells.{Cells, nth_cell, nones, CellWide, AreCellsOf, CellSound}
use Rattle.op_rows.specs.inner.CellLemmas.{nth_sound}
use Rattle.op_rows.specs.RowMeaning.{RowHalf, RowLaws, flip_row}
use Rattle.row_parts.specs.RowCells.{Cell}
use Rattle.op_split_merge.specs.Twins.{first_to, second_to, AreTwinsOf, rest_of}
use Rattle.op_split_merge.specs.Sides.{targets_of, SourceCells, TargetCells, source_cells, target_cells, source_wide, target_wide, source_long, target_long, targets_sound}
use Rattle.op_split_merge.specs.Auxiliary.{split_aux}
use Rattle.op_split_merge.specs.Split.{test_of, ConditionSound, aux_count, SplitFits, SplitRelated, split_forward, split_aux_at_source, split_read_target, split}
use Rattle.op_split_merge.specs.inner.TwinLaws.{to_related, first_either, second_either, first_still, second_still, first_recovered, second_recovered, from_related, from_still, rest_either, source_either, none_second}

-- conditions that may stand may stand later
pub condition_more : (n k : ℕ) (c : Option (Term ℕ)) → n ≤ k → ConditionSound n c → ConditionSound k c
condition_more n k None more sound = tt
condition_more n k (Some e) more sound = term_more n k more e sound

module _ (width : ℕ) (first : Term ℕ) where
  -- the new targets are related to the new source
  related_at : (second : Option (Term ℕ)) (near t : Cells) → (second ≡ None → nth_cell 1 t ≡ None) → SplitRelated first second near (split_forward first second near t)
  related_at None near t none =
      let p = holds_at first in
      let q = test_of None in
      let c = nth_cell 0 near in
      let r = nth_cell 0 t in
      let nothing : second_to p q c r (nth_cell 1 t) ≡ None = ap (λ (s : Cell). second_to p q c r s) (none refl) ∙ none_second p c r in
      subst (λ (s : Cell). AreTwinsOf p q c (first_to p q c r (nth_cell 1 t)) s) nothing (to_related p q c r (nth_cell 1 t))
  related_at (Some e) near t none = to_related (holds_at first) (holds_at e) (nth_cell 0 near) (nth_cell 0 t) (nth_cell 1 t)

  -- both cells of the targets
  both : (second : Option (Term ℕ)) (a b c d : Cell) → a ≡ c → b ≡ d → targets_of second a b ≡ targets_of second c d
  both second a b c d e f = cc

  -- what is read from the auxiliary rows
  read_at : (second : Option (Term ℕ)) (s t : Cells) → SplitRelated first second s t
      → split_read_target first second s (split_aux_at_source first second s t) ≡ targets_of second (nth_cell 0 t) (nth_cell 1 t)
  read_at None s t h = ap (λ (r : Cell). r ∷ []) (first_recovered (holds_at first) (test_of None) (nth_cell 0 s) (nth_cell 0 t) (nth_cell 1 t) h)
  read_at (Some e) s t h =
      both (Some e) _ _ _ _
      (first_recovered (holds_at first) (holds_at e) (nth_cell 0 s) (nth_cell 0 t) (nth_cell 1 t) h)
      (second_recovered (holds_at first) (holds_at e) (nth_cell 0 s) (nth_cell 0 t) (nth_cell 1 t) h)

  aux_long_at : (second : Option (Term ℕ)) (c r s : Cell) → length (split_aux (holds_at first) (test_of second) second c r s) ≡ aux_count second
  aux_long_at None c r s = refl
  aux_long_at (Some e) c r s = refl

  aux_nothing_at : (second : Option (Term ℕ)) → split_aux_at_source first second (nones 1) (nones (length (targets_of second width width))) ≡ nones (aux_count second)
  aux_nothing_at None = refl
  aux_nothing_at (Some e) = refl

  empty_at : (second : Option (Term ℕ)) → SplitRelated first second (nones 1) (nones (length (targets_of second width width)))
  empty_at None = tt
  empty_at (Some e) = tt

  rest_nothing_at : (second : Option (Term ℕ)) → rest_of (nth_cell 0 (nones 1)) (nth_cell 0 (nones (length (targets_of second width width)))) (nth_cell 1 (nones (length (targets_of second width width)))) ≡ None
  rest_nothing_at None = refl
  rest_nothing_at (Some e) = refl

module _ (width : ℕ) (first : Term ℕ) (second : Option (Term ℕ)) where
  -- what either side has
  pub source_of : (hs ht : List Heading) (cs : Cells) → SplitFits width first second hs ht → AreCellsOf hs cs → SourceCells width cs
  source_of hs ht cs fits h = source_cells width hs cs fits.source h

  pub target_of : (hs ht : List Heading) (cs : Cells) → SplitFits width first second hs ht → AreCellsOf ht cs → TargetCells second width cs
  target_of hs ht cs fits h = target_cells second width ht cs fits.target h

  forward_half : RowHalf (split width first second)
  forward_half = record {
    related = λ hs ht near s t pair near_of. related_at width first second near t (target_of hs ht t pair.fits pair.target_of).none_second;
    wide = λ hs ht near s t pair near_of.
        let c = source_of hs ht near pair.fits near_of in
        let d = target_of hs ht t pair.fits pair.target_of in
        target_wide second width ht _ _ pair.fits.target
        (first_either (holds_at first) (test_of second) (CellWide width) (nth_cell 0 near) (nth_cell 0 t) (nth_cell 1 t) tt c.wide)
        (second_either (holds_at first) (test_of second) (CellWide width) (nth_cell 0 near) (nth_cell 0 t) (nth_cell 1 t) tt c.wide d.second_wide);
    still = λ hs ht s t pair.
        both width first second _ _ _ _
        (first_still (holds_at first) (test_of second) (nth_cell 0 s) (nth_cell 0 t) (nth_cell 1 t) pair.related)
        (second_still (holds_at first) (test_of second) (nth_cell 0 s) (nth_cell 0 t) (nth_cell 1 t) pair.related)
        ∙ (target_of hs ht t pair.fits pair.target_of).is;
    below = λ hs ht near s t n may.
        targets_sound second n _ _
        (first_either (holds_at first) (test_of second) (CellSound n) (nth_cell 0 near) (nth_cell 0 t) (nth_cell 1 t) tt (nth_sound n 0 near may.near_sound))
        (second_either (holds_at first) (test_of second) (CellSound n) (nth_cell 0 near) (nth_cell 0 t) (nth_cell 1 t) tt (nth_sound n 0 near may.near_sound) (nth_sound n 1 t may.target_sound));
    recovered = λ hs ht s t reads pair. read_at width first second s t pair.related ∙ (target_of hs ht t pair.fits pair.target_of).is;
    readable = λ hs ht fits. inr refl;
    aux_long = λ hs ht s t pair. aux_long_at width first second (nth_cell 0 s) (nth_cell 0 t) (nth_cell 1 t);
    aux_nothing = aux_nothing_at width first second;
    fits_long = λ hs ht fits. (source_long width hs fits.source, target_long second width ht fits.target);
    closed_more = λ n k more closed. (term_more n k more first closed.0, condition_more n k second more closed.1);
    empty = empty_at width first second;
  }

  backward_half : RowHalf (flip_row (split width first second))
  backward_half = record {
    related = λ ht hs near t s pair near_of. from_related (holds_at first) (test_of second) (nth_cell 0 near) (nth_cell 1 near) (nth_cell 0 s) (nth_cell 0 t) (nth_cell 1 t) pair.related;
    wide = λ ht hs near t s pair near_of.
        let c = target_of hs ht near pair.fits near_of in
        let d = source_of hs ht s pair.fits pair.target_of in
        source_wide width hs _ pair.fits.source (source_either (CellWide width) _ _ _ c.first_wide c.second_wide (rest_either (CellWide width) _ _ _ tt d.wide));
    still = λ ht hs t s pair.
        ap (λ (c : Cell). c ∷ []) (from_still (holds_at first) (test_of second) (nth_cell 0 s) (nth_cell 0 t) (nth_cell 1 t) pair.related)
        ∙ (source_of hs ht s pair.fits pair.target_of).is;
    below = λ ht hs near t s n may.
        (source_either (CellSound n) _ _ _ (nth_sound n 0 near may.near_sound) (nth_sound n 1 near may.near_sound) (rest_either (CellSound n) _ _ _ tt (nth_sound n 0 s may.target_sound)), tt);
    recovered = λ ht hs t s reads pair.
        ap (λ (c : Cell). c ∷ []) (from_still (holds_at first) (test_of second) (nth_cell 0 s) (nth_cell 0 t) (nth_cell 1 t) pair.related)
        ∙ (source_of hs ht s pair.fits pair.target_of).is;
    readable = λ ht hs fits. inr refl;
    aux_long = λ ht hs t s pair. refl;
    aux_nothing = ap (λ (c : Cell). c ∷ []) (rest_nothing_at width first second);
    fits_long = λ ht hs fits. (target_long second width ht fits.target, source_long width hs fits.source);
    closed_more = λ n k more closed. (term_more n k more first closed.0, condition_more n k second more closed.1);
    empty = empty_at width first second;
  }

  pub split_laws : RowLaws (split width first second)
  split_laws = (forward_half, backward_half)
