-- The width and the values of joined rows.
use Rattle.std.proofs.Common.{◌≡◌, ℕ, ◌+◌, List, length}
use Rattle.par_base.specs.declared.value.Value.{Value}
use Rattle.par_base.specs.declared.value.Value.TheVariants.{Null}
use Rattle.op_law.specs.Sound.{ValuesSound}
use Rattle.row_parts.specs.RowCells.{value_or}
use Rattle.row_parts.specs.Places.{value_for, value_of_both, row_of_both}
use Rattle.row_parts.specs.inner.PlaceLemmas.{length-filled, filled_sound, value_for_sound}

-- a joined row has as many values as there are places
pub joined_long : (first second : List ℕ) (a b : List Value) → length (row_of_both first second a b) ≡ length first + length second
joined_long first second a b = length-filled (length first + length second) 0 (value_of_both first second a b)

-- a joined row of values that may stand has such values
pub joined_sound : (n : ℕ) (first second : List ℕ) (a b : List Value) → ValuesSound n a → ValuesSound n b → ValuesSound n (row_of_both first second a b)
joined_sound n first second a b one other =
    filled_sound n (length first + length second) 0 (value_of_both first second a b)
    (λ place. value_for_sound n first a place (value_or Null (value_for second b place)) one (value_for_sound n second b place Null other tt))
