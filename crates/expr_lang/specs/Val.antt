-- The value of an expression at a row.
use Rattle.std.specs.Prelude.{ℕ, Bool, true, ◌&&◌, List, nat_lt, slice_get, unwrap_or}
use Rattle.par_base.specs.declared.value.Value.{Value}
use Rattle.par_base.specs.declared.value.Value.TheVariants.{Null}
use Rattle.expr_lang.specs.Terms.{Term, Literal, Column, Unary, Binary}
use Rattle.expr_lang.specs.Operations.{unary_of, binary_of, is_true}

-- the value at the row; a place past the row's end counts as null
unfoldable pub val : Term ℕ → List Value → Value
val (Literal v) row = v
val (Column place) row = unwrap_or (slice_get row place) Null
val (Unary op t) row = unary_of op (val t row)
val (Binary op t u) row = binary_of op (val t row) (val u row)

-- the condition holds at the row: its value is an integer other than 0
abbrev pub holds_at : Term ℕ → List Value → Bool
holds_at t row = is_true (val t row)

-- a row of so many values has one at each column that the expression reads
unfoldable pub fits_row : Term ℕ → ℕ → Bool
fits_row (Literal v) width = true
fits_row (Column place) width = nat_lt place width
fits_row (Unary op t) width = fits_row t width
fits_row (Binary op t u) width = fits_row t width && fits_row u width
