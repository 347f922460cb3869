-- Passes over the rows of a new source.
use Rattle.std.proofs.Common.{◌≡◌, ℕ, ◌+◌, ◌<◌, ◌≤◌, List, [], ◌∷◌, ◌++◌, length, filter, drop, take, slice_index_or, Bool, Option, Some, None, refl, ap, sym, ◌∙◌, subst, append_assoc, append-nil, arith}
use Rattle.std.proofs.lemmas.Bool.{ne_eqb}
use Rattle.std.proofs.lemmas.List.{take_more}
use Rattle.par_base.specs.declared.value.Value.{Value}
use Rattle.row_store.specs.Rows.{Rows, AreBelow, row_of}
use Rattle.row_store.specs.inner.FoundRows.{from_at}
use Rattle.equal_columns.specs.Keyed.{PassesMatches}
use Rattle.equal_columns.proofs.MatchLaws.{shown_match}
use Rattle.outer_law.specs.Entries.{with_absent}
use Rattle.outer_entries.specs.declared.showing.Showing.{Showing}
use Rattle.outer_entries.specs.Showings.{joining_in, AreFromOne}
use Rattle.outer_entries.specs.inner.Calls.{is_new_in}
use Rattle.id_memory.specs.Pairs.{Pairs, RiseFrom as PairsRise}
use Rattle.op_rows.specs.Cells.{with_row}
use Rattle.row_parts.specs.Places.{row_of_both as joined_row}
use Rattle.row_parts.specs.RowCells.{Cell}
use Rattle.pair_rows.specs.Shown.{Joining, join_cells, row_at, joined, pairs_with, all_pairs}
use Rattle.pair_rows.specs.inner.JoinedRows.{joined_long}
use Rattle.pair_rows.specs.inner.Lookups.{filter_append, with_append as cells_append, with_below}
use Rattle.pair_rows.proofs.ShowingLemmas.{split_at}

-- a joined row is as wide as both parts
pub row_wide : (j : Joining) (s t : Rows) (a b : ℕ) (row : List Value) → Some row ≡ row_at j s t a b → length row ≡ length j.first + length j.second
row_wide j s t a b row e = cell_wide (row_of s a) (row_of t b) e
  where
    cell_wide : (c d : Option (List Value)) → Some row ≡ join_cells j c d → length row ≡ length j.first + length j.second
    cell_wide (Some x) (Some y) e = let same : row ≡ joined_row j.first j.second x y = cc in ap length same ∙ joined_long j.first j.second x y
    cell_wide (Some x) None e = absurd (cc)
    cell_wide None d e = absurd (cc)

-- all pairs of two lists of rows
pub with_append : (a : ℕ) (xs ys : Rows) → pairs_with a (xs ++ ys) ≡ pairs_with a xs ++ pairs_with a ys
with_append a [] ys = refl
with_append a (x ∷ xs) ys = ap (λ (zs : List (ℕ × ℕ)). (a, x.0) ∷ zs) (with_append a xs ys)

-- the same of first rows
pub all_append : (xs ys t : Rows) → all_pairs (xs ++ ys) t ≡ all_pairs xs t ++ all_pairs ys t
all_append [] ys t = refl
all_append (x ∷ xs) ys t = ap (λ (zs : List (ℕ × ℕ)). pairs_with x.0 t ++ zs) (all_append xs ys t) ∙ sym (append_assoc (pairs_with x.0 t) (all_pairs xs t) (all_pairs ys t))

-- all pairs of one first row more
pub all_more : (test : ℕ × ℕ → Bool) (front : ℕ × List Value) (rows t : Rows) (i : ℕ) (row : ℕ × List Value) (made new : List (ℕ × ℕ)) → i < length rows → row ≡ slice_index_or rows i row
    → made ≡ filter test (all_pairs (front ∷ take i rows) t) → new ≡ made ++ filter test (pairs_with row.0 t)
    → new ≡ filter test (all_pairs (front ∷ take (i + 1) rows) t)
all_more test front rows t i row made new h at is made_new =
    let split : take (i + 1) rows ≡ take i rows ++ row ∷ [] = take_more rows i row h ∙ ap (λ (r : ℕ × List Value). take i rows ++ r ∷ []) (sym at) in
    let more : filter test (all_pairs (front ∷ take (i + 1) rows) t) ≡ filter test (all_pairs (front ∷ take i rows) t) ++ filter test (pairs_with row.0 t) =
    ap (λ (rs : Rows). filter test (all_pairs (front ∷ rs) t)) split
    ∙ ap (filter test) (all_append (front ∷ take i rows) (row ∷ []) t ∙ ap (λ (xs : List (ℕ × ℕ)). all_pairs (front ∷ take i rows) t ++ xs) (append-nil (pairs_with row.0 t)))
    ∙ filter_append test (all_pairs (front ∷ take i rows) t) (pairs_with row.0 t) in
    made_new ∙ ap (λ (xs : List (ℕ × ℕ)). xs ++ filter test (pairs_with row.0 t)) is ∙ sym more

-- joined rows of two lists of entries
joined_append : (j : Joining) (s t : Rows) (es fs : Pairs) → joined j s t (es ++ fs) ≡ joined j s t es ++ joined j s t fs
joined_append j s t [] fs = refl
joined_append j s t (e ∷ es) fs = ap (with_row e.0 (row_at j s t e.1 e.2)) (joined_append j s t es fs) ∙ cells_append e.0 (row_at j s t e.1 e.2) (joined j s t es) (joined j s t fs)

-- one entry more
pub joined_next : (j : Joining) (s t : Rows) (es : Pairs) (i : ℕ) (made new : Rows) (cell : Cell) → i < length es → made ≡ joined j s t (take i es) → cell ≡ row_at j s t (slice_index_or es i (0, 0, 0)).1 (slice_index_or es i (0, 0, 0)).2
    → new ≡ made ++ with_row (slice_index_or es i (0, 0, 0)).0 cell [] → new ≡ joined j s t (take (i + 1) es)
joined_next j s t es i made new cell h is at made_new =
    let e = slice_index_or es i (0, 0, 0) in
    let more : joined j s t (take (i + 1) es) ≡ joined j s t (take i es) ++ with_row e.0 (row_at j s t e.1 e.2) [] = ap (joined j s t) (take_more es i (0, 0, 0) h) ∙ joined_append j s t (take i es) (e ∷ []) in
    made_new ∙ ap (λ (c : Cell). made ++ with_row e.0 c []) at ∙ ap (λ (rows : Rows). rows ++ with_row e.0 (row_at j s t e.1 e.2) []) is ∙ sym more

-- joined rows are below the next entry
below_all : (j : Joining) (s t : Rows) (n : ℕ) (es : Pairs) (e : ℕ × ℕ × ℕ) (fs : Pairs) → PairsRise n (es ++ e ∷ fs) → (n ≤ e.0) × AreBelow (joined j s t es) e.0
below_all j s t n [] e fs rise = (rise.0, tt)
below_all j s t n (x ∷ xs) e fs rise =
    let rest = below_all j s t (x.0 + 1) xs e fs rise.1 in
    let low = rise.0 in
    let high = rest.0 in
    (omega (arith, low, high), with_below x.0 e.0 (row_at j s t x.1 x.2) (joined j s t xs) (omega (arith, high)) rest.1)

pub below_next : (j : Joining) (s t : Rows) (es : Pairs) (i : ℕ) → i < length es → PairsRise 0 es → AreBelow (joined j s t (take i es)) (slice_index_or es i (0, 0, 0)).0
below_next j s t es i h rise = (below_all j s t 0 (take i es) (slice_index_or es i (0, 0, 0)) (drop (i + 1) es) (subst (λ (all : Pairs). PairsRise 0 all) (split_at es i h) rise)).1

-- the absent second half and other second rows, of a first half
pub behind_absent : (test : ℕ × ℕ → Bool) (a : ℕ) (places : List ℕ) (rows : Rows) (made one two xs : List (ℕ × ℕ)) → one ≡ made ++ filter test ((a, 0) ∷ []) → two ≡ one ++ filter test xs
    → filter test xs ≡ filter test (pairs_with a rows) → two ≡ made ++ filter test (pairs_with a (with_absent places rows))
behind_absent test a places rows made one two xs first second same =
    second ∙ ap (λ (ys : List (ℕ × ℕ)). ys ++ filter test xs) first ∙ append_assoc made (filter test ((a, 0) ∷ [])) (filter test xs)
    ∙ ap (λ (ys : List (ℕ × ℕ)). made ++ (filter test ((a, 0) ∷ []) ++ ys)) same
    ∙ ap (λ (ys : List (ℕ × ℕ)). made ++ ys) (sym (filter_append test ((a, 0) ∷ []) (pairs_with a rows)))

-- a pair of rows that is an entry and was none matches
pub entry_match : (it : Showing) (row : List Value) (a : ℕ) → AreFromOne it → row_of it.new_s.now.rows a ≡ Some row → PassesMatches (joining_in it) (joining_in it).condition it.new_t.now.rows row a (is_new_in it)
entry_match it row a from first b other second fails =
    let m = it.memory.now.entries in
    let low = from_at 1 it.new_s.now.rows a row from.0 first in
    let high = from_at 1 it.new_t.now.rows b other from.1 second in
    let one = ne_eqb a 0 (λ q. absurd (omega (arith, q, low))) in
    let two = ne_eqb b 0 (λ q. absurd (omega (arith, q, high))) in
    rw (one, two) (shown_match (joining_in it) it.s.now.rows it.t.now.rows m it.new_s.now.rows it.new_t.now.rows row a first b other second fails)
