-- Passes over entries, each with its joined row.
use Rattle.std.proofs.Common.{◌≡◌, ℕ, ◌+◌, ◌<◌, ◌≤◌, [], ◌∷◌, ◌++◌, length, drop, take, slice_index_or, refl, ap, sym, ◌∙◌, subst, arith}
use Rattle.std.proofs.lemmas.List.{take_more}
use Rattle.row_store.specs.Rows.{Rows, AreBelow}
use Rattle.id_memory.specs.Pairs.{Pairs, RiseFrom}
use Rattle.op_rows.specs.Cells.{with_row}
use Rattle.row_parts.specs.RowCells.{Cell}
use Rattle.pair_rows.specs.Shown.{Joining, row_at, joined}
use Rattle.pair_rows.specs.inner.Lookups.{with_append, with_below}
use Rattle.pair_rows.proofs.ShowingLemmas.{split_at}

-- joined rows of two lists of entries
joined_append : (j : Joining) (s t : Rows) (es fs : Pairs) → joined j s t (es ++ fs) ≡ joined j s t es ++ joined j s t fs
joined_append j s t [] fs = refl
joined_append j s t (e ∷ es) fs = ap (with_row e.0 (row_at j s t e.1 e.2)) (joined_append j s t es fs) ∙ with_append e.0 (row_at j s t e.1 e.2) (joined j s t es) (joined j s t fs)

-- joined rows of one entry more
pub joined_more : (j : Joining) (s t : Rows) (es : Pairs) (i : ℕ) → i < length es
    → joined j s t (take (i + 1) es) ≡ joined j s t (take i es) ++ with_row (slice_index_or es i (0, 0, 0)).0 (row_at j s t (slice_index_or es i (0, 0, 0)).1 (slice_index_or es i (0, 0, 0)).2) []
joined_more j s t es i h = ap (joined j s t) (take_more es i (0, 0, 0) h) ∙ joined_append j s t (take i es) (slice_index_or es i (0, 0, 0) ∷ [])

-- the same of the rows that were made
pub joined_next : (j : Joining) (s t : Rows) (es : Pairs) (i : ℕ) (made new : Rows) (cell : Cell) → i < length es → made ≡ joined j s t (take i es) → cell ≡ row_at j s t (slice_index_or es i (0, 0, 0)).1 (slice_index_or es i (0, 0, 0)).2
    → new ≡ made ++ with_row (slice_index_or es i (0, 0, 0)).0 cell [] → new ≡ joined j s t (take (i + 1) es)
joined_next j s t es i made new cell h is at made_new =
    let e = slice_index_or es i (0, 0, 0) in
    made_new ∙ ap (λ (c : Cell). made ++ with_row e.0 c []) at ∙ ap (λ (rows : Rows). rows ++ with_row e.0 (row_at j s t e.1 e.2) []) is ∙ sym (joined_more j s t es i h)

-- joined rows are below the next entry
below_all : (j : Joining) (s t : Rows) (n : ℕ) (es : Pairs) (e : ℕ × ℕ × ℕ) (fs : Pairs) → RiseFrom n (es ++ e ∷ fs) → (n ≤ e.0) × AreBelow (joined j s t es) e.0
below_all j s t n [] e fs rise = (rise.0, tt)
below_all j s t n (x ∷ xs) e fs rise =
    let rest = below_all j s t (x.0 + 1) xs e fs rise.1 in
    let low = rise.0 in
    let high = rest.0 in
    (omega (arith, low, high), with_below x.0 e.0 (row_at j s t x.1 x.2) (joined j s t xs) (omega (arith, high)) rest.1)

-- the same, counted from the front
pub below_next : (j : Joining) (s t : Rows) (es : Pairs) (i : ℕ) → i < length es → RiseFrom 0 es → AreBelow (joined j s t (take i es)) (slice_index_or es i (0, 0, 0)).0
below_next j s t es i h rise = (below_all j s t 0 (take i es) (slice_index_or es i (0, 0, 0)) (drop (i + 1) es) (subst (λ (all : Pairs). RiseFrom 0 all) (split_at es i h) rise)).1
