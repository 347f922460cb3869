-- Rows of either table that match rows of the other.
use Rattle.std.specs.Prelude.{◌≡◌, ℕ, Bool, true, List, Some}
use Rattle.expr_lang.specs.Val.{holds_at}
use Rattle.par_base.specs.declared.value.Value.{Value}
use Rattle.row_store.specs.Rows.{Rows, row_of}
use Rattle.op_law.specs.Identifiers.{has_id}
use Rattle.row_parts.specs.Places.{row_of_both as joined_row}
use Rattle.pair_rows.specs.declared.half.Half.{Half}
use Rattle.pair_rows.specs.declared.half.Half.TheVariants.{First, Second}
use Rattle.pair_rows.specs.Shown.{Joining}

-- a row of the half's table and one of the other table, joined
abbrev pub joined_of : Joining → Half → List Value → List Value → List Value
joined_of j First row other = joined_row j.first j.second row other
joined_of j Second row other = joined_row j.first j.second other row

-- the condition holds of both
abbrev pub meets : Joining → Half → List Value → List Value → Bool
meets j half row other = holds_at j.condition (joined_of j half row other)

-- of both tables, that of the half, and the other one
abbrev pub own_of : Half → Rows → Rows → Rows
own_of First s t = s
own_of Second s t = t

abbrev pub others_of : Half → Rows → Rows → Rows
others_of First s t = t
others_of Second s t = s

-- all rows of the other table that match the row are among these
abbrev pub HasMatches : Joining → Half → Rows → List ℕ → List Value → Type 0
HasMatches j half others ids row = (b : ℕ) (other : List Value) → row_of others b ≡ Some other → meets j half row other ≡ true → has_id ids b ≡ true

-- they are, whatever tables it knows
abbrev pub FindsMatches : Joining → (Rows → Rows → Type 0) → Half → List ℕ → List Value → Type 0
FindsMatches j knows half ids row = (s t : Rows) → knows s t → HasMatches j half (others_of half s t) ids row

-- likewise of the row that an identifier has in the half's table
abbrev pub FindsMatchesAt : Joining → (Rows → Rows → Type 0) → Half → List ℕ → ℕ → Type 0
FindsMatchesAt j knows half ids id = (s t : Rows) (row : List Value) → knows s t → row_of (own_of half s t) id ≡ Some row → HasMatches j half (others_of half s t) ids row
