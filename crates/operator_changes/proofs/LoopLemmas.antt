-- Parts of tables, identifier by identifier.
use Rattle.std.proofs.Common.{◌≡◌, ℕ, zero, suc, ◌+◌, ◌<◌, ◌≤◌, List, [], ◌∷◌, ◌++◌, Option, Some, None, take, get_or, length, refl, ap, ◌∙◌, arith}
use Rattle.par_base.specs.declared.value.Value.{Value}
use Rattle.row_store.specs.Rows.{Rows, AreBelow, row_of}
use Rattle.row_store.specs.States.{TableState}
use Rattle.op_law.specs.Tables.{Tables, contents}
use Rattle.op_rows.specs.Cells.{with_row, table_from}
use Rattle.op_rows.specs.inner.CellLemmas.{IdsRise}
use Rattle.operator_changes.specs.Pairs.{table_at}
use Rattle.operator_changes.specs.Parts.{part_of}

append_with_row : (x : ℕ) (o : Option (List Value)) (xs ys : Rows) → with_row x o (xs ++ ys) ≡ with_row x o xs ++ ys
append_with_row x None xs ys = refl
append_with_row x (Some row) xs ys = refl

-- one identifier more is one cell behind
pub table_next : (ids : List ℕ) (i d : ℕ) (f : ℕ → Option (List Value)) → i < length ids → table_from (take (i + 1) ids) f ≡ table_from (take i ids) f ++ with_row (get_or ids i d) (f (get_or ids i d)) []
table_next [] i d f h = absurd (omega arith)
table_next (x ∷ xs) zero d f h = refl
table_next (x ∷ xs) (suc i) d f h =
    let e : suc i + 1 ≡ suc (i + 1) = omega arith in
    rw e (ap (with_row x (f x)) (table_next xs i d f (omega arith)) ∙ append_with_row x (f x) (table_from (take i xs) f) (with_row (get_or xs i d) (f (get_or xs i d)) []))

least_of : (n : ℕ) (ids : List ℕ) (i d : ℕ) → IdsRise n ids → i < length ids → n ≤ get_or ids i d
least_of n [] i d rise h = absurd (omega arith)
least_of n (x ∷ xs) zero d rise h = rise.0
least_of n (x ∷ xs) (suc i) d rise h = omega (arith, rise.0, least_of (x + 1) xs i d rise.1 (omega arith))

below_with_row : (x id : ℕ) (o : Option (List Value)) (rows : Rows) → x < id → AreBelow rows id → AreBelow (with_row x o rows) id
below_with_row x id None rows h below = below
below_with_row x id (Some row) rows h below = (h, below)

-- the next identifier is above those before it
pub table_below : (n : ℕ) (ids : List ℕ) (i d : ℕ) (f : ℕ → Option (List Value)) → IdsRise n ids → i < length ids → AreBelow (table_from (take i ids) f) (get_or ids i d)
table_below n [] i d f rise h = absurd (omega arith)
table_below n (x ∷ xs) zero d f rise h = tt
table_below n (x ∷ xs) (suc i) d f rise h =
    below_with_row x (get_or xs i d) (f x) (table_from (take i xs) f) (omega (arith, least_of (x + 1) xs i d rise.1 (omega arith))) (table_below (x + 1) xs i d f rise.1 (omega arith))

pub contents_more : (tables : List TableState) (t : TableState) → contents (tables ++ t ∷ []) ≡ contents tables ++ t.rows ∷ []
contents_more [] t = refl
contents_more (u ∷ us) t = ap (λ (ts : Tables). u.rows ∷ ts) (contents_more us t)

-- one table more
pub part_next : (ids : List ℕ) (ts : Tables) (i : ℕ) → i < length ts → part_of ids (take (i + 1) ts) ≡ part_of ids (take i ts) ++ table_from ids (row_of (table_at ts i)) ∷ []
part_next ids [] i h = absurd (omega arith)
part_next ids (t ∷ ts) zero h = refl
part_next ids (t ∷ ts) (suc i) h = let e : suc i + 1 ≡ suc (i + 1) = omega arith in rw e (ap (λ (us : Tables). table_from ids (row_of t) ∷ us) (part_next ids ts i (omega arith)))

pub contents_long : (tables : List TableState) → length (contents tables) ≡ length tables
contents_long [] = refl
contents_long (t ∷ ts) = ap suc (contents_long ts)

-- the table at a place of a side
pub content_at : (tables : List TableState) (i : ℕ) (d : TableState) → i < length tables → table_at (contents tables) i ≡ (get_or tables i d).rows
content_at [] i d h = absurd (omega arith)
content_at (t ∷ ts) zero d h = refl
content_at (t ∷ ts) (suc i) d h = content_at ts i d (omega arith)

pub content_out : (tables : List TableState) (i : ℕ) → length tables ≤ i → table_at (contents tables) i ≡ []
content_out [] i h = refl
content_out (t ∷ ts) zero h = absurd (omega arith)
content_out (t ∷ ts) (suc i) h = content_out ts i (omega arith)

-- a part of some of the tables has no more than all of them
pub part_few : (ids : List ℕ) (ts : Tables) (n : ℕ) → length (part_of ids (take n ts)) ≤ length ts
part_few ids [] zero = omega arith
part_few ids [] (suc n) = omega arith
part_few ids (t ∷ ts) zero = omega arith
part_few ids (t ∷ ts) (suc n) = omega (arith, part_few ids ts n)
