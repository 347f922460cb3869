-- The least row of a value.
use Rattle.std.specs.Prelude.{ℕ, List, [], ◌∷◌, Bool, ◌&&◌, cond, Option, Some, None}
use Rattle.par_base.specs.declared.value.Value.{Value}
use Rattle.row_store.specs.Rows.{Rows}
use Rattle.par_base.specs.SameRows.{same_row}

-- the least of these rows that has the value and is one of those that are meant
abbrev pub least_with : (ℕ → List Value → Bool) → Rows → List Value → Option ℕ
least_with meant [] v = None
least_with meant (r ∷ rs) v = cond (same_row r.1 v && meant r.0 r.1) (Some r.0) (least_with meant rs v)

-- the rows that are meant
abbrev pub meant_rows : (ℕ → List Value → Bool) → Rows → Rows
meant_rows meant [] = []
meant_rows meant (r ∷ rs) = cond (meant r.0 r.1) (r ∷ meant_rows meant rs) (meant_rows meant rs)
