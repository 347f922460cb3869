-- The laws of ADD COLUMN.
use Rattle.std.specs.Prelude.{◌≡◌, ℕ, ◌+◌, ◌≤◌, List, [], ◌∷◌, length, Option, Some, None, refl}
use Rattle.std.proofs.Common.{inr, ap, sym, ◌∙◌, arith}
use Rattle.std.proofs.lemmas.List.Edits.{length-insert, length-remove}
use Rattle.par_base.specs.declared.value.Value.{Value}
use Rattle.expr_lang.specs.Terms.{Term}
use Rattle.expr_lang.specs.Val.{val}
use Rattle.op_law.specs.Tables.{Heading, widths}
use Rattle.op_law.specs.Sound.{ValueSound}
use Rattle.op_law.specs.SoundTerms.{TermSound}
use Rattle.op_law.proofs.SoundTermLaws.{place_sound, val_sound, term_more}
use Rattle.op_rows.specs.Cells.{Cells, first_cell, CellWide, AreCellsOf, CellSound}
use Rattle.op_rows.specs.RowMeaning.{RowHalf, RowLaws, flip_row}
use Rattle.op_column.specs.OneTable.{one_cell, one_wide, one_long, first_sound}
use Rattle.row_parts.specs.RowEdits.{remove-insert, insert-remove, insert_sound, remove_sound}
use Rattle.op_column.specs.AddColumn.{with_column, without_column, column_alone, added_value, added, restored, AddColumnFits, add_column}

-- how many columns either side has
pub source_wide : (place : ℕ) (e : Term ℕ) (hs ht : List Heading) (fits : AddColumnFits place e hs ht) → widths hs ≡ length fits.source.columns ∷ []
source_wide place e hs ht fits = ap widths fits.source_is

pub target_wide : (place : ℕ) (e : Term ℕ) (hs ht : List Heading) (fits : AddColumnFits place e hs ht) → widths ht ≡ (length fits.source.columns + 1) ∷ []
target_wide place e hs ht fits =
    let long = ap length fits.columns ∙ length-insert fits.source.columns place fits.column fits.within in
    ap widths fits.target_is ∙ ap (λ (width : ℕ). width ∷ []) long

-- a row with the column and then without it is as before
pub with_then_without : (place width : ℕ) (value : List Value → Value) (c : Option (List Value)) → CellWide width c → place ≤ width → without_column place (with_column place value c) ≡ c
with_then_without place width value None wide within = refl
with_then_without place width value (Some row) wide within = ap (λ (vs : List Value). Some vs) (remove-insert row place (value row) (omega arith))

-- one value more, and one less
pub with_column_wide : (place width : ℕ) (value : List Value → Value) (c : Option (List Value)) → CellWide width c → place ≤ width → CellWide (width + 1) (with_column place value c)
with_column_wide place width value None wide within = tt
with_column_wide place width value (Some row) wide within = let long = length-insert row place (value row) (omega arith) in omega (arith, long, wide)

pub without_column_wide : (place width : ℕ) (c : Option (List Value)) → CellWide (width + 1) c → place ≤ width → CellWide width (without_column place c)
without_column_wide place width None wide within = tt
without_column_wide place width (Some row) wide within = let long = length-remove row place (omega arith) in omega (arith, long, wide)

-- the sides that the mappings give are as wide as the other side
pub forward_wide : (place : ℕ) (e : Term ℕ) (hs ht : List Heading) (value : List Value → Value) (near : Cells) → AddColumnFits place e hs ht → AreCellsOf hs near → AreCellsOf ht (with_column place value (first_cell near) ∷ [])
forward_wide place e hs ht value near fits near_of =
    let wide = with_column_wide place _ value (first_cell near) (one_cell _ hs near (source_wide place e hs ht fits) near_of).wide fits.within in
    one_wide _ ht _ (target_wide place e hs ht fits) (record { is = refl; wide = wide })

pub backward_wide : (place : ℕ) (e : Term ℕ) (hs ht : List Heading) (near : Cells) → AddColumnFits place e hs ht → AreCellsOf ht near → AreCellsOf hs (without_column place (first_cell near) ∷ [])
backward_wide place e hs ht near fits near_of =
    let wide = without_column_wide place _ (first_cell near) (one_cell _ ht near (target_wide place e hs ht fits) near_of).wide fits.within in
    one_wide _ hs _ (source_wide place e hs ht fits) (record { is = refl; wide = wide })

-- whatever value the column gets
pub forward_related : (place : ℕ) (e : Term ℕ) (hs ht : List Heading) (value : List Value → Value) (near : Cells) → AddColumnFits place e hs ht → AreCellsOf hs near → first_cell near ≡ without_column place (with_column place value (first_cell near))
forward_related place e hs ht value near fits near_of =
    sym (with_then_without place _ value (first_cell near) (one_cell _ hs near (source_wide place e hs ht fits) near_of).wide fits.within)

module _ (place : ℕ) (e : Term ℕ) where
  -- the rows of the old source give back the old target's
  to_still : (width : ℕ) (c t : Option (List Value)) → CellWide (width + 1) t → place ≤ width → c ≡ without_column place t → added place e c t ≡ t
  to_still width c None wide within same = rw same refl
  to_still width c (Some row) wide within same = rw same (ap (λ (x : List Value). Some x) (insert-remove row place (omega arith)))

  -- and so do the source's with what was kept beside
  to_recovered : (width : ℕ) (c t : Option (List Value)) → CellWide (width + 1) t → place ≤ width → c ≡ without_column place t → restored place c (column_alone place t) ≡ t
  to_recovered width c None wide within same = rw same refl
  to_recovered width c (Some row) wide within same = rw same (ap (λ (x : List Value). Some x) (insert-remove row place (omega arith)))

  -- what may stand gives what may stand
  added_sound : (n : ℕ) (row : List Value) (t : Option (List Value)) → CellSound n t → ValueSound n (val e row) → ValueSound n (added_value place e t row)
  added_sound n row None t_sound sound = sound
  added_sound n row (Some old) t_sound sound = place_sound n old place t_sound

  to_sound : (n : ℕ) (c t : Option (List Value)) → TermSound n e → CellSound n c → CellSound n t → CellSound n (added place e c t)
  to_sound n None t closed c_sound t_sound = tt
  to_sound n (Some row) t closed c_sound t_sound = insert_sound n row place (added_value place e t row) c_sound (added_sound n row t t_sound (val_sound n e row closed c_sound))

  -- and so does taking the column away
  from_sound : (n : ℕ) (c : Option (List Value)) → CellSound n c → CellSound n (without_column place c)
  from_sound n None sound = tt
  from_sound n (Some row) sound = remove_sound n row place sound

  forward_half : RowHalf (add_column place e)
  forward_half = record {
    related = λ hs ht near s t pair near_of. forward_related place e hs ht _ near pair.fits near_of;
    wide = λ hs ht near s t pair near_of. forward_wide place e hs ht _ near pair.fits near_of;
    still = λ hs ht s t pair.
        let one = one_cell _ ht t (target_wide place e hs ht pair.fits) pair.target_of in
        ap (λ (c : Option (List Value)). c ∷ []) (to_still _ _ _ one.wide pair.fits.within pair.related) ∙ one.is;
    below = λ hs ht near s t n may. (to_sound n (first_cell near) (first_cell t) may.closed (first_sound n near may.near_sound) (first_sound n t may.target_sound), tt);
    recovered = λ hs ht s t reads pair.
        let one = one_cell _ ht t (target_wide place e hs ht pair.fits) pair.target_of in
        ap (λ (c : Option (List Value)). c ∷ []) (to_recovered _ _ _ one.wide pair.fits.within pair.related) ∙ one.is;
    readable = λ hs ht fits. inr refl;
    aux_long = λ hs ht s t pair. refl;
    aux_nothing = refl;
    fits_long = λ hs ht fits. (one_long _ hs (source_wide place e hs ht fits), one_long _ ht (target_wide place e hs ht fits));
    closed_more = λ n k more closed. term_more n k more e closed;
    empty = refl;
  }

  backward_half : RowHalf (flip_row (add_column place e))
  backward_half = record {
    related = λ ht hs near t s pair near_of. refl;
    wide = λ ht hs near t s pair near_of. backward_wide place e hs ht near pair.fits near_of;
    still = λ ht hs t s pair.
        ap (λ (c : Option (List Value)). c ∷ []) (sym pair.related) ∙ (one_cell _ hs s (source_wide place e hs ht pair.fits) pair.target_of).is;
    below = λ ht hs near t s n may. (from_sound n (first_cell near) (first_sound n near may.near_sound), tt);
    recovered = λ ht hs t s reads pair.
        ap (λ (c : Option (List Value)). c ∷ []) (sym pair.related) ∙ (one_cell _ hs s (source_wide place e hs ht pair.fits) pair.target_of).is;
    readable = λ ht hs fits. inr refl;
    aux_long = λ ht hs t s pair. refl;
    aux_nothing = refl;
    fits_long = λ ht hs fits. (one_long _ ht (target_wide place e hs ht fits), one_long _ hs (source_wide place e hs ht fits));
    closed_more = λ n k more closed. term_more n k more e closed;
    empty = refl;
  }

pub add_column_laws : (place : ℕ) (e : Term ℕ) → RowLaws (add_column place e)
add_column_laws place e = (forward_half place e, backward_half place e)
