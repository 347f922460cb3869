-- The parts of real rows fit.
use Rattle.std.proofs.Common.{ℕ, ◌+◌, ◌≤◌, List, length, ap, ◌∙◌, arith}
use Rattle.std.proofs.lemmas.List.Edits.{length-insert, length-remove}
use Rattle.par_base.specs.declared.value.Value.{Value}
use Rattle.par_base.specs.declared.value.Value.TheVariants.{Null}
use Rattle.op_law.specs.Tables.{Heading}
use Rattle.op_law.specs.Laws.{Laws}
use Rattle.row_parts.specs.RowCells.{value_or}
use Rattle.foreign_keys.specs.KeyParts.{FkParts, FkWell}
use Rattle.row_parts.specs.RowEdits.{value_at-insert, remove-insert, insert-remove, insert_sound, remove_sound}
use Rattle.row_parts.specs.Places.{value_for, ArePartition, names_at}
use Rattle.op_fk_decompose.specs.Columns.{column_parts, DecomposeFits, decompose_columns}
use Rattle.foreign_keys.specs.Shared.{FkFits}
use Rattle.op_fk_decompose.specs.inner.DecomposeRead.{decompose_laws}
use Rattle.row_parts.specs.inner.PlaceLemmas.{length-pick, length-filled, length-nulls, value_at_sound, pick_sound, filled_sound, nulls_sound, value_for_sound, first_join, second_join, join_parts, length-names}

module _ (first second : List ℕ) (place : ℕ) (divided : ArePartition first second) (within : place ≤ length first) where
  -- how many columns R has
  abbrev w : ℕ
  w = length first + length second

  -- the parts
  abbrev k : FkParts
  k = column_parts first second place

  -- what the row of both parts has at a place
  abbrev value : List Value → List Value → ℕ → Value
  value x y at = value_or (value_or Null (value_for second y at)) (value_for first x at)

  -- two lists that divide the places give parts that fit
  pub columns_fit : FkWell k w (length first) (length second) (length first + 1)
  columns_fit = record {
    first_join = first_join first second divided;
    second_join = second_join first second divided;
    join_parts = join_parts first second divided;
    long_first = λ v e. length-pick first v;
    long_second = λ v e. length-pick second v;
    long_join = λ x y e f. length-filled w 0 (value x y);
    long_null_first = length-nulls (length first);
    long_null_second = length-nulls (length second);
    part_put = λ x f e. remove-insert x place f (omega (arith, within, e));
    key_put = λ x f e. value_at-insert x place f (omega (arith, within, e));
    put_parts = λ v e. insert-remove v place (omega (arith, within, e));
    long_put = λ x f e. length-insert x place f (omega (arith, within, e)) ∙ ap (λ (i : ℕ). i + 1) e;
    long_part = λ v e. let r = length-remove v place (omega (arith, within, e)) in omega (arith, r, e);
    sound_first = λ n v sound. pick_sound n first v sound;
    sound_second = λ n v sound. pick_sound n second v sound;
    sound_join = λ n x y sx sy. filled_sound n w 0 (value x y) (λ at. value_for_sound n first x at (value_or Null (value_for second y at)) sx (value_for_sound n second y at Null sy tt));
    sound_put = λ n x f sx sf. insert_sound n x place f sx sf;
    sound_part = λ n v sound. remove_sound n v place sound;
    sound_key = λ n v sound. value_at_sound n v place sound;
    sound_null_first = λ n. nulls_sound n (length first);
    sound_null_second = λ n. nulls_sound n (length second);
  }

-- the parts of the columns fit the headings
pub fits : (first second : List ℕ) (place : ℕ) (hs ht : List Heading) → DecomposeFits first second place hs ht → FkFits (column_parts first second place) (length first + length second) (length first) (length second) (length first + 1) hs ht
fits first second place hs ht f = record {
  source = f.source;
  first = f.s;
  second = f.t;
  source_is = f.source_is;
  target_is = f.target_is;
  source_wide = f.columns;
  first_wide = ap length f.s_columns
      ∙ length-insert (names_at first f.source.columns) place f.key (let e = length-names first f.source.columns in let within = f.within in omega (arith, within, e))
      ∙ ap (λ (i : ℕ). i + 1) (length-names first f.source.columns);
  second_wide = ap length f.t_columns ∙ length-names second f.source.columns;
  well = columns_fit first second place f.divided f.within;
}

-- DECOMPOSE ON FK keeps the laws
pub decompose_keeps : (first second : List ℕ) (place : ℕ) → Laws (decompose_columns first second place)
decompose_keeps first second place =
    decompose_laws (DecomposeFits first second place) (column_parts first second place) (length first + length second) (length first) (length second) (length first + 1) (fits first second place)
