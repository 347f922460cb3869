-- Passes over identifiers.
use Rattle.std.proofs.Common.{◌≡◌, ℕ, ◌+◌, ◌<◌, ◌≤◌, ◌==◌, List, [], ◌∷◌, ◌++◌, length, take, drop, slice_index_or, refl, ap, sym, ◌∙◌, subst, take-append-drop, arith}
use Rattle.std.proofs.lemmas.List.{take_more, drop_more}
use Rattle.row_store.specs.Rows.{Rows, AreBelow}
use Rattle.id_memory.specs.Pairs.{Pairs}
use Rattle.op_rows.specs.Cells.{with_row, table_from}
use Rattle.op_rows.specs.inner.CellLemmas.{IdsRise}
use Rattle.row_parts.specs.RowCells.{Cell, by_test}
use Rattle.pair_rows.specs.Kept.{paired, partner, part_at}
use Rattle.pair_rows.specs.inner.Lookups.{with_below, with_append}

-- the joined row of an identifier is found by the identifier of its entry
pub paired_at : (pick : ℕ × ℕ × ℕ → ℕ) (places : List ℕ) (r : Rows) (es : Pairs) (id : ℕ) → part_at places r (partner pick es id) ≡ paired pick places r es id
paired_at pick places r [] id = refl
paired_at pick places r (e ∷ es) id = by_test (pick e == id) (λ q. rw q refl) (λ q. rw q (paired_at pick places r es id))

-- tables made at identifiers
from_append : (f : ℕ → Cell) (xs ys : List ℕ) → table_from (xs ++ ys) f ≡ table_from xs f ++ table_from ys f
from_append f [] ys = refl
from_append f (x ∷ xs) ys = ap (with_row x (f x)) (from_append f xs ys) ∙ with_append x (f x) (table_from xs f) (table_from ys f)

-- one identifier more
pub from_more : (f : ℕ → Cell) (ids : List ℕ) (i : ℕ) (made new : Rows) (cell : Cell) → i < length ids → made ≡ table_from (take i ids) f → cell ≡ f (slice_index_or ids i 0) → new ≡ made ++ with_row (slice_index_or ids i 0) cell []
    → new ≡ table_from (take (i + 1) ids) f
from_more f ids i made new cell h is at pushed =
    let id = slice_index_or ids i 0 in
    pushed ∙ ap (λ (c : Cell). made ++ with_row id c []) at ∙ ap (λ (rows : Rows). rows ++ with_row id (f id) []) is
    ∙ sym (ap (λ (all : List ℕ). table_from all f) (take_more ids i 0 h) ∙ from_append f (take i ids) (id ∷ []))

-- rows are below the next identifier
behind_ids : (f : ℕ → Cell) (n : ℕ) (xs : List ℕ) (x : ℕ) (ys : List ℕ) → IdsRise n (xs ++ x ∷ ys) → (n ≤ x) × AreBelow (table_from xs f) x
behind_ids f n [] x ys rise = (rise.0, tt)
behind_ids f n (y ∷ zs) x ys rise =
    let rest = behind_ids f (y + 1) zs x ys rise.1 in
    let low = rise.0 in
    let high = rest.0 in
    (omega (arith, low, high), with_below y x (f y) (table_from zs f) (omega (arith, high)) rest.1)

-- the same, counted from the front
pub from_below : (f : ℕ → Cell) (ids : List ℕ) (i : ℕ) → i < length ids → IdsRise 0 ids → AreBelow (table_from (take i ids) f) (slice_index_or ids i 0)
from_below f ids i h rise =
    let split : ids ≡ take i ids ++ slice_index_or ids i 0 ∷ drop (i + 1) ids = sym (take-append-drop i ids) ∙ ap (λ (rest : List ℕ). take i ids ++ rest) (drop_more ids i 0 h) in
    (behind_ids f 0 (take i ids) (slice_index_or ids i 0) (drop (i + 1) ids) (subst (λ (all : List ℕ). IdsRise 0 all) split rise)).1
