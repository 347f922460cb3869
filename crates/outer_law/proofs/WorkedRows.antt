-- Rows that were worked out by hand.
use Rattle.std.proofs.Common.{◌≡◌, ℕ, pos, List, [], ◌∷◌, refl}
use Rattle.par_base.specs.declared.value.Value.{Value}
use Rattle.par_base.specs.declared.value.Value.TheVariants.{Int, Null}
use Rattle.expr_lang.specs.Terms.{Column, Binary}
use Rattle.expr_lang.specs.declared.tree.BinaryOp.TheVariants.{LessOrEqual}
use Rattle.expr_lang.specs.Val.{val}
use Rattle.row_store.specs.Rows.{Rows}
use Rattle.op_law.specs.Meaning.{PairState}
use Rattle.par_base.specs.SameRows.{same_row}
use Rattle.pair_rows.specs.Shown.{Joining}
use Rattle.outer_law.specs.OuterOn.{outer_forward, outer_backward}

-- a row of one number
abbrev row : ℕ → ℕ → ℕ × List Value
row id x = (id, Int (pos x) ∷ [])

-- a joined row
abbrev pair : ℕ → Value → Value → ℕ × List Value
pair id x y = (id, x ∷ y ∷ [])

-- a number
abbrev n : ℕ → Value
n x = Int (pos x)

-- s(x) and t(y), joined on x <= y
abbrev at_most : Joining
at_most = record { first = 0 ∷ []; second = 1 ∷ []; condition = Binary LessOrEqual (Column 0) (Column 1) }

-- two rows of either table
abbrev s : Rows
s = row 1 1 ∷ row 2 20 ∷ []

-- and of the other
abbrev t : Rows
t = row 3 1 ∷ row 4 0 ∷ []

-- a new operator shows the pair that matches, and each row alone that is in none
abbrev made : PairState
made = record { source = s ∷ t ∷ []; target = (pair 5 Null (n 0) ∷ pair 6 (n 1) (n 1) ∷ pair 7 (n 20) Null ∷ []) ∷ []; memory = (5, 0, 4) ∷ (6, 1, 3) ∷ (7, 2, 0) ∷ [] }

is_made : outer_forward at_most (s ∷ t ∷ []) (record { source = [] ∷ [] ∷ []; target = [] ∷ []; memory = [] }) 5 ≡ record { far = made.target; memory = made.memory; next = 8 }
unfolding val
is_made = refl

-- a row of the second table changes, and matches both rows of the first
abbrev updated : PairState
updated = record { source = s ∷ (row 3 1 ∷ row 4 30 ∷ []) ∷ []; target = (pair 6 (n 1) (n 1) ∷ pair 8 (n 1) (n 30) ∷ pair 9 (n 20) (n 30) ∷ []) ∷ []; memory = (6, 1, 3) ∷ (8, 1, 4) ∷ (9, 2, 4) ∷ [] }

is_updated : outer_forward at_most updated.source made 8 ≡ record { far = updated.target; memory = updated.memory; next = 10 }
unfolding val
is_updated = refl

-- a row of the target is deleted: its first row was in no other entry, and goes
abbrev deleted : PairState
deleted = record { source = (row 1 1 ∷ []) ∷ (row 3 1 ∷ row 4 30 ∷ []) ∷ []; target = (pair 6 (n 1) (n 1) ∷ pair 8 (n 1) (n 30) ∷ []) ∷ []; memory = (6, 1, 3) ∷ (8, 1, 4) ∷ [] }

is_deleted : outer_backward at_most deleted.target updated 10 ≡ record { far = deleted.source; memory = deleted.memory; next = 10 }
unfolding val same_row
is_deleted = refl

-- its second half is set to null: its first row is in another entry, so a new one is drawn
is_halved : outer_backward at_most ((pair 6 (n 1) (n 1) ∷ pair 8 (n 1) Null ∷ []) ∷ []) deleted 10 ≡ record { far = (row 1 1 ∷ row 10 1 ∷ []) ∷ (row 3 1 ∷ []) ∷ []; memory = (6, 1, 3) ∷ (8, 10, 0) ∷ []; next = 11 }
unfolding val same_row
is_halved = refl
