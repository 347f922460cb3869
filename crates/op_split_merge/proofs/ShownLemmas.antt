-- What writes through SPLIT and MERGE show.
use Rattle.std.specs.Prelude.{◌≢◌}
use Rattle.std.proofs.Common.{◌≡◌, ℕ, List, [], ◌∷◌, true, false, Some, None, refl, arith}
use Rattle.par_base.specs.declared.value.Value.{Value}
use Rattle.expr_lang.specs.Terms.{Term}
use Rattle.par_base.specs.SameRows.{same_row}
use Rattle.par_base.specs.inner.SameLaws.{row_equal}
use Rattle.expr_lang.specs.Val.{holds_at}
use Rattle.row_parts.specs.RowCells.{Cell}
use Rattle.op_split_merge.specs.Shown.{shown, split_ways, merge_ways, NewInBoth, NewInFirst, NewInSecond, NewInNeither, LostFirstStays, LostSecondStays, SeparatedStay, FirstComesIn, SecondComesIn, DeletedGoes, AgainstStays, OneTargetShows, NewRowsMerged, TwinsMerged, OneTwinWritten}

-- rows that differ are told apart
differ_told : (r s : List Value) → r ≢ s → same_row r s ≡ false
differ_told r s differ = elim (same_row r s) as (λ b. same_row r s ≡ b → same_row r s ≡ false) [
  | true ↦ λ same. absurd (differ (row_equal r s same))
  | false ↦ λ other. other
] refl

module _ (width : ℕ) (first second : Term ℕ) where
  pub new_in_both : NewInBoth (split_ways width first (Some second)) first second
  new_in_both row h k = rw (h, k) refl

  pub new_in_first : NewInFirst (split_ways width first (Some second)) first second
  new_in_first row h k = rw (h, k) refl

  pub new_in_second : NewInSecond (split_ways width first (Some second)) first second
  new_in_second row h k = rw (h, k) refl

  pub new_in_neither : NewInNeither (split_ways width first (Some second)) first second
  new_in_neither row h k = (rw (h, k) refl, refl)

  pub lost_first_stays : LostFirstStays (split_ways width first (Some second)) first second
  lost_first_stays row old h k = grind arith

  pub lost_second_stays : LostSecondStays (split_ways width first (Some second)) first second
  lost_second_stays row old h k = grind arith

  pub separated_stay : SeparatedStay (split_ways width first (Some second)) first second
  separated_stay row r s differ h = let apart = differ_told r s differ in grind arith

  pub first_comes_in : FirstComesIn (split_ways width first (Some second)) first second
  first_comes_in row old h k l = grind arith

  pub second_comes_in : SecondComesIn (split_ways width first (Some second)) first second
  second_comes_in row old h k l = grind arith

  pub deleted_goes : DeletedGoes (split_ways width first (Some second)) first second
  deleted_goes c s row = (refl, refl)

  pub against_stays : AgainstStays (split_ways width first (Some second)) first second
  against_stays row old s h = grind arith

  pub new_rows : NewRowsMerged (merge_ways width first (Some second))
  new_rows row = (refl, refl)

  pub twins : TwinsMerged (merge_ways width first (Some second))
  twins row other old t = (refl, refl)

  pub one_written : OneTwinWritten (merge_ways width first (Some second)) first
  one_written row r s differ h = let apart = differ_told r s differ in grind arith

-- a row that the target had, or none
module _ (width : ℕ) (condition : Term ℕ) where
  meets_one : (row : List Value) (old : Cell) → holds_at condition row ≡ true → shown (split_ways width condition None) row (old ∷ []) ≡ Some row ∷ []
  meets_one row None h = grind arith
  meets_one row (Some old) h = grind arith

  pub one_target : OneTargetShows (split_ways width condition None) condition
  one_target = record {
    meets = meets_one;
    new_fails = λ row h. (grind arith, refl);
    leaves = λ row old h k. grind arith;
    against = λ row old h. grind arith;
  }
