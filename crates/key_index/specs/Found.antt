-- What a look-up by value answers.
use Rattle.std.specs.Prelude.{◌≡◌, ℕ, ◌≤◌, List, [], ◌∷◌, cond, Option, Some, None, MatchOption}
use Rattle.par_base.specs.declared.value.Value.{Value}
use Rattle.par_base.specs.SameRows.{same_row}
use Rattle.row_store.specs.Rows.{Rows, row_of}

-- the least identifier from this one on that has the key; none, where there is none
abbrev pub IsLeastFrom : Rows → List Value → ℕ → Option ℕ → Type 0
IsLeastFrom rows key from found =
    MatchOption found
    ((id : ℕ) → from ≤ id → row_of rows id ≡ Some key → ⊥)
    (λ least. (from ≤ least) × (row_of rows least ≡ Some key) × ((id : ℕ) → from ≤ id → row_of rows id ≡ Some key → least ≤ id))

-- the identifier of the first row with the key, which is the least one
abbrev pub first_with : Rows → List Value → Option ℕ
first_with [] key = None
first_with (r ∷ rs) key = cond (same_row r.1 key) (Some r.0) (first_with rs key)
