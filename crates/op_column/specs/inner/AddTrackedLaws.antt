-- The laws of ADD COLUMN .. TRACKED, from those of the column's place.
use Rattle.std.specs.Prelude.{◌≡◌, ℕ, ◌+◌, ◌-◌, List, [], ◌∷◌, length, true, false, if◌then◌else◌, Option, Some, None, refl}
use Rattle.std.specs.List.{insert, remove}
use Rattle.std.proofs.Common.{inr, ap, sym, ◌∙◌, subst, arith}
use Rattle.std.proofs.lemmas.List.Edits.{length-insert, length-remove}
use Rattle.par_base.specs.declared.value.Value.{Value}
use Rattle.par_base.specs.SameRows.{same_value}
use Rattle.par_base.specs.inner.SameLaws.{value_equal}
use Rattle.expr_lang.specs.Terms.{Term}
use Rattle.expr_lang.specs.Val.{val}
use Rattle.op_law.specs.Tables.{Heading}
use Rattle.op_law.specs.Sound.{ValueSound}
use Rattle.op_law.specs.SoundTerms.{TermSound}
use Rattle.op_law.proofs.SoundTermLaws.{place_sound, val_sound, term_more}
use Rattle.op_rows.specs.Cells.{Cells, first_cell, CellWide, AreCellsOf, CellSound}
use Rattle.op_rows.specs.RowMeaning.{RowHalf, RowLaws, flip_row}
use Rattle.row_parts.specs.RowEdits.{remove-insert, insert-remove, insert_sound, remove_sound}
use Rattle.op_column.specs.OneTable.{one_cell, one_long, first_sound}
use Rattle.op_column.specs.AddColumn.{with_column, without_column, added_value, AddColumnFits}
use Rattle.op_column.specs.inner.AddColumnLaws.{source_wide, target_wide, forward_wide, backward_wide}
use Rattle.op_column.specs.AddTracked.{end_of, last_of, last_value, unless_same, deviating, tracked, columns_in, add_tracked}

-- the column's place at a row is the number of the source's columns
end_is : (place : ℕ) (value : List Value → Value) (c : Option (List Value)) → CellWide place c → with_column (end_of c) value c ≡ with_column place value c
end_is place value None wide = refl
end_is place value (Some row) wide = ap (λ (n : ℕ). with_column n value (Some row)) wide

last_is : (place : ℕ) (t : Option (List Value)) → CellWide (place + 1) t → without_column (last_of t) t ≡ without_column place t
last_is place None wide = refl
last_is place (Some row) wide =
    let at : length row - 1 ≡ place = omega (arith, wide) in
    ap (λ (n : ℕ). without_column n (Some row)) at

-- a row with the column and then without it is as before
with_then_without : (value : List Value → Value) (c : Option (List Value)) → without_column (last_of (with_column (end_of c) value c)) (with_column (end_of c) value c) ≡ c
with_then_without value None = refl
with_then_without value (Some row) =
    let long = length-insert row (length row) (value row) (omega arith) in
    let at : length (insert row (length row) (value row)) - 1 ≡ length row = omega (arith, long) in
    ap (λ (n : ℕ). without_column n (Some (insert row (length row) (value row)))) at
    ∙ ap (λ (vs : List Value). Some vs) (remove-insert row (length row) (value row) (omega arith))

-- the value that is put in again: the one that deviates, or the expression's, which it then is
value_again : (e : Term ℕ) (row : List Value) (value : Value) → added_value 0 e (unless_same (val e row) value) row ≡ value
value_again e row value = elim (same_value (val e row) value) as (λ b. same_value (val e row) value ≡ b → added_value 0 e (if b then None else Some (value ∷ [])) row ≡ value) [
  | true ↦ λ same. value_equal (val e row) value same
  | false ↦ λ other. refl
] refl

-- the rows of the source and the values that deviate give back the target's
row_again : (place : ℕ) (row : List Value) (v : Value) → length row ≡ place + 1 → v ≡ last_value row → insert (remove row (length row - 1)) (length (remove row (length row - 1))) v ≡ row
row_again place row v wide is =
    let less = length-remove row (length row - 1) (omega (arith, wide)) in
    let at : length (remove row (length row - 1)) ≡ length row - 1 = omega (arith, less, wide) in
    ap (λ (n : ℕ). insert (remove row (length row - 1)) n v) at
    ∙ ap (insert (remove row (length row - 1)) (length row - 1)) is
    ∙ insert-remove row (length row - 1) (omega (arith, wide))

pub tracked_again : (place : ℕ) (e : Term ℕ) (c t : Option (List Value)) → CellWide (place + 1) t → c ≡ without_column (last_of t) t → tracked e c (deviating e c t) ≡ t
tracked_again place e c None wide same = rw same refl
tracked_again place e c (Some row) wide same =
    let near = remove row (length row - 1) in
    ap (λ (x : Option (List Value)). tracked e x (deviating e x (Some row))) same
    ∙ ap (λ (vs : List Value). Some vs) (row_again place row _ wide (value_again e near (last_value row)))

-- what may stand gives what may stand
unless_sound : (n : ℕ) (follows value : Value) → ValueSound n value → CellSound n (unless_same follows value)
unless_sound n follows value sound = elim (same_value follows value) as (λ b. CellSound n (if b then None else Some (value ∷ []))) [
  | true ↦ tt
  | false ↦ (sound, tt)
]

pub deviating_sound : (n : ℕ) (e : Term ℕ) (c t : Option (List Value)) → CellSound n t → CellSound n (deviating e c t)
deviating_sound n e None t sound = tt
deviating_sound n e (Some row) None sound = tt
deviating_sound n e (Some row) (Some target) sound = unless_sound n (val e row) (last_value target) (place_sound n target (length target - 1) sound)

value_sound : (n : ℕ) (e : Term ℕ) (row : List Value) (kept : Option (List Value)) → CellSound n kept → ValueSound n (val e row) → ValueSound n (added_value 0 e kept row)
value_sound n e row None kept_sound sound = sound
value_sound n e row (Some kept) kept_sound sound = place_sound n kept 0 kept_sound

tracked_sound : (n : ℕ) (e : Term ℕ) (c kept : Option (List Value)) → TermSound n e → CellSound n c → CellSound n kept → CellSound n (tracked e c kept)
tracked_sound n e None kept closed c_sound kept_sound = tt
tracked_sound n e (Some row) kept closed c_sound kept_sound =
    insert_sound n row (length row) (added_value 0 e kept row) c_sound (value_sound n e row kept kept_sound (val_sound n e row closed c_sound))

without_sound : (n : ℕ) (c : Option (List Value)) → CellSound n c → CellSound n (without_column (last_of c) c)
without_sound n None sound = tt
without_sound n (Some row) sound = remove_sound n row (length row - 1) sound

module _ (e : Term ℕ) (hs ht : List Heading) (fits : AddColumnFits (columns_in hs) e hs ht) where
  -- the place is the number of the source's columns
  pub place_is : length fits.source.columns ≡ columns_in hs
  place_is = sym (ap columns_in fits.source_is)

  -- how wide the rows of either side are
  pub near_wide : (near : Cells) → AreCellsOf hs near → CellWide (columns_in hs) (first_cell near)
  near_wide near near_of =
      subst (λ (n : ℕ). CellWide n (first_cell near)) place_is (one_cell _ hs near (source_wide (columns_in hs) e hs ht fits) near_of).wide

  pub far_wide : (far : Cells) → AreCellsOf ht far → CellWide (columns_in hs + 1) (first_cell far)
  far_wide far far_of =
      subst (λ (n : ℕ). CellWide (n + 1) (first_cell far)) place_is (one_cell _ ht far (target_wide (columns_in hs) e hs ht fits) far_of).wide

  pub far_is : (far : Cells) → AreCellsOf ht far → first_cell far ∷ [] ≡ far
  far_is far far_of = (one_cell _ ht far (target_wide (columns_in hs) e hs ht fits) far_of).is

  near_is : (near : Cells) → AreCellsOf hs near → first_cell near ∷ [] ≡ near
  near_is near near_of = (one_cell _ hs near (source_wide (columns_in hs) e hs ht fits) near_of).is

  -- the sides that the mappings give are as wide as the other side
  pub tracked_wide : (near : Cells) (kept : Option (List Value)) → AreCellsOf hs near → AreCellsOf ht (tracked e (first_cell near) kept ∷ [])
  tracked_wide near kept near_of =
      subst (λ (c : Option (List Value)). AreCellsOf ht (c ∷ [])) (sym (end_is (columns_in hs) (added_value 0 e kept) (first_cell near) (near_wide near near_of)))
      (forward_wide (columns_in hs) e hs ht (added_value 0 e kept) near fits near_of)

  without_wide : (far : Cells) → AreCellsOf ht far → AreCellsOf hs (without_column (last_of (first_cell far)) (first_cell far) ∷ [])
  without_wide far far_of =
      subst (λ (c : Option (List Value)). AreCellsOf hs (c ∷ [])) (sym (last_is (columns_in hs) (first_cell far) (far_wide far far_of)))
      (backward_wide (columns_in hs) e hs ht far fits far_of)

  -- the old target, from the old source and what deviates
  pub target_again : (s t : Cells) → AreCellsOf ht t → first_cell s ≡ without_column (last_of (first_cell t)) (first_cell t) → tracked e (first_cell s) (deviating e (first_cell s) (first_cell t)) ∷ [] ≡ t
  target_again s t t_of same =
      ap (λ (c : Option (List Value)). c ∷ []) (tracked_again (columns_in hs) e (first_cell s) (first_cell t) (far_wide t t_of) same) ∙ far_is t t_of

-- whatever value the column gets
pub tracked_related : (e : Term ℕ) (c kept : Option (List Value)) → c ≡ without_column (last_of (tracked e c kept)) (tracked e c kept)
tracked_related e c kept = sym (with_then_without (added_value 0 e kept) c)

module _ (e : Term ℕ) where
  forward_half : RowHalf (add_tracked e)
  forward_half = record {
    related = λ hs ht near s t pair near_of. tracked_related e (first_cell near) (deviating e (first_cell s) (first_cell t));
    wide = λ hs ht near s t pair near_of. tracked_wide e hs ht pair.fits near (deviating e (first_cell s) (first_cell t)) near_of;
    still = λ hs ht s t pair. target_again e hs ht pair.fits s t pair.target_of pair.related;
    below = λ hs ht near s t n may. (
      tracked_sound n e (first_cell near) _ may.closed (first_sound n near may.near_sound)
          (deviating_sound n e (first_cell s) (first_cell t) (first_sound n t may.target_sound)),
      tt,
    );
    recovered = λ hs ht s t reads pair. target_again e hs ht pair.fits s t pair.target_of pair.related;
    readable = λ hs ht fits. inr refl;
    aux_long = λ hs ht s t pair. refl;
    aux_nothing = refl;
    fits_long = λ hs ht fits. (one_long _ hs (source_wide (columns_in hs) e hs ht fits), one_long _ ht (target_wide (columns_in hs) e hs ht fits));
    closed_more = λ n k more closed. term_more n k more e closed;
    empty = refl;
  }

  backward_half : RowHalf (flip_row (add_tracked e))
  backward_half = record {
    related = λ ht hs near t s pair near_of. refl;
    wide = λ ht hs near t s pair near_of. without_wide e hs ht pair.fits near near_of;
    still = λ ht hs t s pair. ap (λ (c : Option (List Value)). c ∷ []) (sym pair.related) ∙ near_is e hs ht pair.fits s pair.target_of;
    below = λ ht hs near t s n may. (without_sound n (first_cell near) (first_sound n near may.near_sound), tt);
    recovered = λ ht hs t s reads pair. ap (λ (c : Option (List Value)). c ∷ []) (sym pair.related) ∙ near_is e hs ht pair.fits s pair.target_of;
    readable = λ ht hs fits. inr refl;
    aux_long = λ ht hs t s pair. refl;
    aux_nothing = refl;
    fits_long = λ ht hs fits. (one_long _ ht (target_wide (columns_in hs) e hs ht fits), one_long _ hs (source_wide (columns_in hs) e hs ht fits));
    closed_more = λ n k more closed. term_more n k more e closed;
    empty = refl;
  }

pub add_tracked_laws : (e : Term ℕ) → RowLaws (add_tracked e)
add_tracked_laws e = (forward_half e, backward_half e)
