-- What becomes of the values of an added or a dropped column.
use Rattle.std.specs.List.{remove}
use Rattle.std.specs.Option.{option_map}
use Rattle.std.proofs.Common.{◌≡◌, ℕ, ◌≤◌, List, [], ◌∷◌, ◌++◌, length, Option, Some, None, IsSome, refl, ap, arith}
use Rattle.std.proofs.lemmas.Bool.{false≢true}
use Rattle.par_base.specs.declared.value.Value.{Value}
use Rattle.expr_lang.specs.Terms.{Term}
use Rattle.expr_lang.specs.Val.{val}
use Rattle.op_rows.specs.Cells.{first_cell, CellWide}
use Rattle.op_column.specs.OneTable.{one_cell}
use Rattle.row_parts.specs.RowEdits.{value_at, value_at-insert}
use Rattle.op_column.specs.AddColumn.{added}
use Rattle.op_column.specs.inner.AddColumnLaws.{source_wide}
use Rattle.op_column.specs.ColumnKept.{AddedColumnKept, AddedColumnFilled, DroppedColumnKept, DroppedColumnFilled, DroppedColumnLeftOut}

-- at one row
kept_at : (place width : ℕ) (e : Term ℕ) (c t : Option (List Value)) → CellWide width c → place ≤ width → IsSome c → IsSome t → option_map (value_at place) (added place e c t) ≡ option_map (value_at place) t
kept_at place width e None t wide within has had = absurd (false≢true has)
kept_at place width e (Some row) None wide within has had = absurd (false≢true had)
kept_at place width e (Some row) (Some old) wide within has had =
    ap (λ (v : Value). Some v) (value_at-insert row place (value_at place old) (omega (arith, wide, within)))

filled_at : (place width : ℕ) (e : Term ℕ) (c t : Option (List Value)) → CellWide width c → place ≤ width → t ≡ None → option_map (value_at place) (added place e c t) ≡ option_map (val e) c
filled_at place width e None t wide within new = refl
filled_at place width e (Some row) None wide within new =
    ap (λ (v : Value). Some v) (value_at-insert row place (val e row) (omega (arith, wide, within)))
filled_at place width e (Some row) (Some old) wide within new = absurd (cc)

-- at one identifier
pub added_kept : AddedColumnKept
added_kept place e hs ht near s t pair near_of has had =
    kept_at place _ e (first_cell near) (first_cell t) (one_cell _ hs near (source_wide place e hs ht pair.fits) near_of).wide pair.fits.within has had

pub added_filled : AddedColumnFilled
added_filled place e hs ht near s t pair near_of new =
    filled_at place _ e (first_cell near) (first_cell t) (one_cell _ hs near (source_wide place e hs ht pair.fits) near_of).wide pair.fits.within new

pub dropped_kept : DroppedColumnKept
dropped_kept place e hs ht near s t pair near_of has had =
    kept_at place _ e (first_cell near) (first_cell s) (one_cell _ ht near (source_wide place e ht hs pair.fits) near_of).wide pair.fits.within has had

pub dropped_filled : DroppedColumnFilled
dropped_filled place e hs ht near s t pair near_of new =
    filled_at place _ e (first_cell near) (first_cell s) (one_cell _ ht near (source_wide place e ht hs pair.fits) near_of).wide pair.fits.within new

-- a list without the item behind the others
without_middle : (before behind : List Value) (value : Value) → remove (before ++ value ∷ behind) (length before) ≡ before ++ behind
without_middle [] behind value = refl
without_middle (v ∷ vs) behind value = ap (λ (row : List Value). v ∷ row) (without_middle vs behind value)

pub dropped_left_out : DroppedColumnLeftOut
dropped_left_out e before behind value s t = ap (λ (row : List Value). Some row ∷ []) (without_middle before behind value)
