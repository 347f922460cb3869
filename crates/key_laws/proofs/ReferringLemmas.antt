-- Rows that refer to others, in the words of the operators, and values that are told apart.
use Rattle.std.proofs.Common.{◌≡◌, ℕ, ◌⊎◌, List, Bool, true, false, not, ◌&&◌, ◌||◌, Some, None, IsSome, refl, ap, subst}
use mathlib.Core.Logic.{inl, inr}
use Rattle.par_base.specs.declared.value.Value.{Value}
use Rattle.par_base.specs.declared.value.Value.TheVariants.{Null, Int, Text, Reference}
use Rattle.par_base.specs.SameRows.{same_row}
use Rattle.par_base.specs.inner.SameLaws.{row_equal, row_same}
use Rattle.row_parts.specs.RowCells.{Cell, is_there, or_else, kept_if, by_test}
use Rattle.foreign_keys.specs.References.{goal_of}

-- a value that leads to q is the reference to q
pub goal_is_reference : (v : Value) (q : ℕ) → goal_of v ≡ Some q → v ≡ Reference q
goal_is_reference (Reference p) q e = let same : p ≡ q = cc in ap Reference same
goal_is_reference Null q e = absurd (cc)
goal_is_reference (Int i) q e = absurd (cc)
goal_is_reference (Text t) q e = absurd (cc)

-- the words of the operator for a row that isn't alone
pub used_passes : (c : Cell) (r : Bool) → IsSome c ⊎ (r ≡ true) → (r || is_there c) ≡ true
used_passes (Some v) true h = refl
used_passes (Some v) false h = refl
used_passes None true h = refl
used_passes None false (inl some) = absurd (cc)
used_passes None false (inr e) = absurd (cc)

-- and back
pub passes_used : (c : Cell) (r : Bool) → (r || is_there c) ≡ true → IsSome c ⊎ (r ≡ true)
passes_used (Some v) r h = inl refl
passes_used None true h = inr refl
passes_used None false h = absurd (cc)

-- not alone, in those words
pub not_alone_if : (t s : Cell) (r : Bool) → IsSome s ⊎ (r ≡ true) → (is_there t && (not (is_there s) && not r)) ≡ false
not_alone_if None s r h = refl
not_alone_if (Some u) (Some v) r h = refl
not_alone_if (Some u) None true h = refl
not_alone_if (Some u) None false (inl some) = absurd (cc)
not_alone_if (Some u) None false (inr e) = absurd (cc)

-- and back
pub if_not_alone : (t s : Cell) (r : Bool) → IsSome t → (is_there t && (not (is_there s) && not r)) ≡ false → IsSome s ⊎ (r ≡ true)
if_not_alone None s r some h = absurd (cc)
if_not_alone (Some u) (Some v) r some h = inl refl
if_not_alone (Some u) None true some h = inr refl
if_not_alone (Some u) None false some h = absurd (cc)

-- nothing of what isn't kept
pub none_kept : (al re : Bool) (x c y : Cell) → al ≡ false → re ≡ false → y ≡ None → or_else (kept_if al x) (or_else (kept_if re c) y) ≡ None
none_kept al re x c y e f g = rw (e, f, g) refl

-- values that differ are told apart
pub told_apart : (x y : List Value) → (x ≡ y → ⊥) → same_row x y ≡ false
told_apart x y other = by_test (same_row x y) (λ e. absurd (other (row_equal x y e))) (λ e. e)

-- and equal values aren't
pub told_same : (x y : List Value) → x ≡ y → same_row x y ≡ true
told_same x y e = subst (λ (z : List Value). same_row x z ≡ true) e (row_same x)
