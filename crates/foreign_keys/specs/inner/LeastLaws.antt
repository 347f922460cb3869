-- The least row of a value, of those that are meant, is the first of these with it.
use Rattle.std.proofs.Common.{◌≡◌, ℕ, List, [], ◌∷◌, Bool, refl}
use Rattle.par_base.specs.declared.value.Value.{Value}
use Rattle.par_base.specs.SameRows.{same_row}
use Rattle.row_store.specs.Rows.{Rows}
use Rattle.row_parts.specs.RowCells.{by_test}
use Rattle.key_index.specs.Found.{first_with}
use Rattle.foreign_keys.specs.Least.{least_with, meant_rows}

pub first_meant : (meant : ℕ → List Value → Bool) (rows : Rows) (v : List Value) → first_with (meant_rows meant rows) v ≡ least_with meant rows v
first_meant meant [] v = refl
first_meant meant (r ∷ rs) v =
    by_test (meant r.0 r.1)
    (λ e. by_test (same_row r.1 v) (λ u. rw (e, u) refl) (λ u. rw (e, u) (first_meant meant rs v)))
    (λ e. by_test (same_row r.1 v) (λ u. rw (e, u) (first_meant meant rs v)) (λ u. rw (e, u) (first_meant meant rs v)))
