-- A table that grows behind, identifier by identifier.
use Rattle.std.proofs.Common.{◌≡◌, ℕ, zero, suc, ◌+◌, ◌<◌, ◌≤◌, List, [], ◌∷◌, ◌++◌, length, take, get_or, Some, None, refl, ap, sym, ◌∙◌, subst, arith}
use Rattle.row_store.specs.Rows.{Rows, AreBelow}
use Rattle.op_rows.specs.Cells.{with_row, table_from}
use Rattle.op_rows.specs.inner.CellLemmas.{IdsRise}
use Rattle.row_parts.specs.RowCells.{Cell}

append_with_row : (x : ℕ) (o : Cell) (xs ys : Rows) → with_row x o (xs ++ ys) ≡ with_row x o xs ++ ys
append_with_row x None xs ys = refl
append_with_row x (Some row) xs ys = refl

pub table_next : (ids : List ℕ) (i d : ℕ) (f : ℕ → Cell) → i < length ids → table_from (take (i + 1) ids) f ≡ table_from (take i ids) f ++ with_row (get_or ids i d) (f (get_or ids i d)) []
table_next [] i d f h = absurd (omega arith)
table_next (x ∷ xs) zero d f h = refl
table_next (x ∷ xs) (suc i) d f h =
    let e : suc i + 1 ≡ suc (i + 1) = omega arith in
    rw e (ap (with_row x (f x)) (table_next xs i d f (omega arith)) ∙ append_with_row x (f x) (table_from (take i xs) f) (with_row (get_or xs i d) (f (get_or xs i d)) []))

least_of : (n : ℕ) (ids : List ℕ) (i d : ℕ) → IdsRise n ids → i < length ids → n ≤ get_or ids i d
least_of n [] i d rise h = absurd (omega arith)
least_of n (x ∷ xs) zero d rise h = rise.0
least_of n (x ∷ xs) (suc i) d rise h = omega (arith, rise.0, least_of (x + 1) xs i d rise.1 (omega arith))

below_with_row : (x id : ℕ) (o : Cell) (rows : Rows) → x < id → AreBelow rows id → AreBelow (with_row x o rows) id
below_with_row x id None rows h below = below
below_with_row x id (Some row) rows h below = (h, below)

pub table_below : (n : ℕ) (ids : List ℕ) (i d : ℕ) (f : ℕ → Cell) → IdsRise n ids → i < length ids → AreBelow (table_from (take i ids) f) (get_or ids i d)
table_below n [] i d f rise h = absurd (omega arith)
table_below n (x ∷ xs) zero d f rise h = tt
table_below n (x ∷ xs) (suc i) d f rise h =
    below_with_row x (get_or xs i d) (f x) (table_from (take i xs) f) (omega (arith, least_of (x + 1) xs i d rise.1 (omega arith))) (table_below (x + 1) xs i d f rise.1 (omega arith))

-- the table so far is below the next identifier
pub pass_below : (ids : List ℕ) (i : ℕ) (f : ℕ → Cell) (rows : Rows) → IdsRise 0 ids → i < length ids → rows ≡ table_from (take i ids) f → AreBelow rows (get_or ids i 0)
pass_below ids i f rows rise h made = subst (λ (rs : Rows). AreBelow rs (get_or ids i 0)) (sym made) (table_below 0 ids i 0 f rise h)

-- and with the next row it is the table of one more identifier
pub pass_more : (ids : List ℕ) (i : ℕ) (f : ℕ → Cell) (before after : Rows) (cell : Cell) → i < length ids → before ≡ table_from (take i ids) f → cell ≡ f (get_or ids i 0) → after ≡ before ++ with_row (get_or ids i 0) cell [] → after ≡ table_from (take (i + 1) ids) f
pass_more ids i f before after cell h made is pushed =
    pushed ∙ ap (λ (rows : Rows). rows ++ with_row (get_or ids i 0) cell []) made ∙ ap (λ (c : Cell). table_from (take i ids) f ++ with_row (get_or ids i 0) c []) is ∙ sym (table_next ids i 0 f h)
