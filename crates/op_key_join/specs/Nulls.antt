-- Rows all of whose values are null.
use Rattle.std.specs.Prelude.{◌≡◌, ℕ, zero, suc, List, [], ◌∷◌, length, Bool, true, false, ◌&&◌, Some, None, refl}
use Rattle.std.proofs.Common.{ap}
use Rattle.std.proofs.lemmas.Bool.{false≢true}
use Rattle.par_base.specs.declared.value.Value.{Value}
use Rattle.par_base.specs.declared.value.Value.TheVariants.{Null, Int, Text, Reference}
use Rattle.row_parts.specs.RowCells.{Cell}
use Rattle.row_parts.specs.Places.{nulls}

abbrev pub null_value : Value → Bool
null_value Null = true
null_value _ = false

-- all values of a row are null; a row without columns is null
abbrev pub is_null : List Value → Bool
is_null [] = true
is_null (v ∷ vs) = null_value v && is_null vs

-- there is a row, and it is null
abbrev pub is_null_there : Cell → Bool
is_null_there None = false
is_null_there (Some row) = is_null row

-- so many nulls are null
pub nulls_null : (count : ℕ) → is_null (nulls count) ≡ true
nulls_null zero = refl
nulls_null (suc count) = nulls_null count

-- and a null row has nothing but nulls
pub null_nulls : (row : List Value) → is_null row ≡ true → row ≡ nulls (length row)
null_nulls [] h = refl
null_nulls (Null ∷ vs) h = ap (λ (rest : List Value). Null ∷ rest) (null_nulls vs h)
null_nulls (Int number ∷ vs) h = absurd (false≢true h)
null_nulls (Text text ∷ vs) h = absurd (false≢true h)
null_nulls (Reference id ∷ vs) h = absurd (false≢true h)
