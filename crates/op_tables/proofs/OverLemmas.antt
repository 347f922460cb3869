-- What is left of a table, and what is left to make, step by step.
use Rattle.std.proofs.Common.{◌≡◌, ℕ, ◌+◌, ◌<◌, List, ◌∷◌, length, drop, get_or, Some, None, ap, sym, ◌∙◌}
use Rattle.std.proofs.lemmas.List.{at_drop_more}
use Rattle.row_store.specs.Rows.{Rows}
use Rattle.op_rows.specs.Cells.{with_row, table_from}
use Rattle.op_tables.specs.inner.Coming.{CantCome, Comes}
use Rattle.row_parts.specs.RowCells.{Cell}

-- what is left to make begins with what the next identifier makes
left_at : (ids : List ℕ) (i : ℕ) (f : ℕ → Cell) (cell : Cell) → i < length ids → cell ≡ f (get_or ids i 0) → table_from (drop i ids) f ≡ with_row (get_or ids i 0) cell (table_from (drop (i + 1) ids) f)
left_at ids i f cell h is =
    at_drop_more (λ (xs : List ℕ). table_from xs f) ids i 0 h ∙ ap (λ (c : Cell). with_row (get_or ids i 0) c (table_from (drop (i + 1) ids) f)) (sym is)

-- the same row in front, and the same in all, so the same behind
same_behind : (id : ℕ) (cell : Cell) (some other : Rows) → with_row id cell some ≡ with_row id cell other → some ≡ other
same_behind id None some other e = e
same_behind id (Some row) some other e = cc

-- where what is made comes next, what is left is to be made exactly where what is left behind is
pub left_before : (ids : List ℕ) (i : ℕ) (f : ℕ → Cell) (cell : Cell) (left rest : Rows) → i < length ids → cell ≡ f (get_or ids i 0) → Comes (get_or ids i 0) cell left rest → table_from (drop (i + 1) ids) f ≡ rest → table_from (drop i ids) f ≡ left
left_before ids i f cell left rest h is comes e = left_at ids i f cell h is ∙ ap (with_row (get_or ids i 0) cell) e ∙ sym comes

-- and back
pub left_behind : (ids : List ℕ) (i : ℕ) (f : ℕ → Cell) (cell : Cell) (left rest : Rows) → i < length ids → cell ≡ f (get_or ids i 0) → Comes (get_or ids i 0) cell left rest → table_from (drop i ids) f ≡ left → table_from (drop (i + 1) ids) f ≡ rest
left_behind ids i f cell left rest h is comes e =
    same_behind (get_or ids i 0) cell (table_from (drop (i + 1) ids) f) rest (sym (left_at ids i f cell h is) ∙ e ∙ comes)

-- where it doesn't come next, what is left isn't what is to be made
pub never_left : (ids : List ℕ) (i : ℕ) (f : ℕ → Cell) (cell : Cell) (left : Rows) → i < length ids → cell ≡ f (get_or ids i 0) → CantCome (get_or ids i 0) cell left → table_from (drop i ids) f ≡ left → ⊥
never_left ids i f cell left h is cant e = cant (table_from (drop (i + 1) ids) f) (sym (left_at ids i f cell h is) ∙ e)
