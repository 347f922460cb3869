-- Rows that are as they were, and pairs with them.
use Rattle.std.proofs.Common.{◌≡◌, ℕ, zero, suc, ◌+◌, ◌<◌, List, [], ◌∷◌, ◌++◌, length, take, filter, slice_index_or, true, false, ◌&&◌, not, Some, None, is_some, refl, ap, sym, ◌∙◌, arith}
use Rattle.std.proofs.lemmas.Bool.{false≢true, ne_eqb, eq-eqb}
use Rattle.std.proofs.lemmas.List.{take_more}
use Rattle.par_base.specs.declared.value.Value.{Value}
use Rattle.row_store.specs.Rows.{Rows, RiseFrom, row_of}
use Rattle.id_memory.specs.Pairs.{Pairs}
use Rattle.row_parts.specs.RowCells.{Cell, by_test}
use Rattle.par_base.specs.inner.SameLaws.{row_equal}
use Rattle.pair_rows.specs.Shown.{Joining, join_cells, row_at, holds_in, matches, has, is_shown, pairs_with}
use Rattle.pair_rows.specs.inner.ShownLaws.{still_none}
use Rattle.pair_rows.specs.inner.Changed.{as_before, changed_in, ids_of, pairs_of, AreRowsOf}

-- a row that is as it was is the old one
pub before_is : (c : Cell) (row : List Value) → as_before c row ≡ true → c ≡ Some row
before_is None row e = absurd (false≢true e)
before_is (Some old) row e = ap (λ (r : List Value). Some r) (row_equal old row e)

-- one row more
changed_append : (old xs ys : Rows) → changed_in old (xs ++ ys) ≡ changed_in old xs ++ changed_in old ys
changed_append old [] ys = refl
changed_append old (x ∷ xs) ys =
    let rest = changed_append old xs ys in
    by_test (as_before (row_of old x.0) x.1) (λ q. rw q rest) (λ q. rw q (ap (λ (ids : List ℕ). x.0 ∷ ids) rest))

-- the same, counted from the front
pub changed_more : (old rows : Rows) (i : ℕ) (row : ℕ × List Value) (made new : List ℕ) → i < length rows → row ≡ slice_index_or rows i row
    → made ≡ changed_in old (take i rows) → new ≡ made ++ changed_in old (row ∷ []) → new ≡ changed_in old (take (i + 1) rows)
changed_more old rows i row made new h at is pushed =
    let split : take (i + 1) rows ≡ take i rows ++ row ∷ [] = take_more rows i row h ∙ ap (λ (r : ℕ × List Value). take i rows ++ r ∷ []) (sym at) in
    pushed ∙ ap (λ (ids : List ℕ). ids ++ changed_in old (row ∷ [])) is ∙ sym (ap (changed_in old) split ∙ changed_append old (take i rows) (row ∷ []))

-- identifiers of two lists
ids_append : (xs ys : Rows) → ids_of (xs ++ ys) ≡ ids_of xs ++ ids_of ys
ids_append [] ys = refl
ids_append (x ∷ xs) ys = ap (λ (ids : List ℕ). x.0 ∷ ids) (ids_append xs ys)

-- identifiers of one row more
pub ids_more : (rows : Rows) (i : ℕ) (row : ℕ × List Value) (made new : List ℕ) → i < length rows → row ≡ slice_index_or rows i row
    → made ≡ ids_of (take i rows) → new ≡ made ++ row.0 ∷ [] → new ≡ ids_of (take (i + 1) rows)
ids_more rows i row made new h at is pushed =
    let split : take (i + 1) rows ≡ take i rows ++ row ∷ [] = take_more rows i row h ∙ ap (λ (r : ℕ × List Value). take i rows ++ r ∷ []) (sym at) in
    pushed ∙ ap (λ (ids : List ℕ). ids ++ row.0 ∷ []) is ∙ sym (ap ids_of split ∙ ids_append (take i rows) (row ∷ []))

-- the rows of a table are its rows
rows_of_more : (x : ℕ × List Value) (table rows : Rows) (k : ℕ) → x.0 < k → RiseFrom k rows → AreRowsOf table rows → AreRowsOf (x ∷ table) rows
rows_of_more x table [] k h rise all = tt
rows_of_more x table (r ∷ rs) k h rise all =
    let low = rise.0 in
    let other = ne_eqb x.0 r.0 (λ q. absurd (omega (arith, q, low, h))) in
    (rw other all.0, rows_of_more x table rs (r.0 + 1) (omega (arith, h, low)) rise.1 all.1)

-- all rows are
pub rows_of : (k : ℕ) (rows : Rows) → RiseFrom k rows → AreRowsOf rows rows
rows_of k [] rise = tt
rows_of k (r ∷ rs) rise = (let own = eq-eqb r.0 r.0 refl in rw own refl, rows_of_more r rs rs (r.0 + 1) (omega arith) rise.1 (rows_of (r.0 + 1) rs rise.1))

-- each of such rows is found
row_each : (table rows : Rows) (i : ℕ) (d : ℕ × List Value) → i < length rows → AreRowsOf table rows → row_of table (slice_index_or rows i d).0 ≡ Some (slice_index_or rows i d).1
row_each table [] i d h all = absurd (omega arith)
row_each table (r ∷ rs) zero d h all = all.0
row_each table (r ∷ rs) (suc i) d h all = row_each table rs i d (omega arith) all.1

-- a row of a table is found in it
pub row_there : (rows : Rows) (i : ℕ) (row : ℕ × List Value) → i < length rows → row ≡ slice_index_or rows i row → RiseFrom 0 rows → row_of rows row.0 ≡ Some row.1
row_there rows i row h at rise =
    ap (λ (r : ℕ × List Value). row_of rows r.0) at ∙ row_each rows rows i row h (rows_of 0 rows rise) ∙ ap (λ (r : ℕ × List Value). Some r.1) (sym at)

-- all pairs of a row
pub pairs_all : (a : ℕ) (rows : Rows) → pairs_of a (ids_of rows) ≡ pairs_with a rows
pairs_all a [] = refl
pairs_all a (r ∷ rs) = ap (λ (xs : List (ℕ × ℕ)). (a, r.0) ∷ xs) (pairs_all a rs)

module _ (j : Joining) (s t : Rows) (m : Pairs) (ns nt : Rows) where
  -- old and new rows of a pair that are the same match alike
  pub match_still : (a b : ℕ) → row_of s a ≡ row_of ns a → row_of t b ≡ row_of nt b → matches j s t a b ≡ matches j ns nt a b
  match_still a b first second =
      ap (λ (c : Cell). holds_in j.condition (join_cells j c (row_of t b))) first ∙ ap (λ (c : Cell). holds_in j.condition (join_cells j (row_of ns a) c)) second

  -- a pair of rows that are as they were isn't new
  not_new : (a b : ℕ) → row_of s a ≡ row_of ns a → row_of t b ≡ row_of nt b → (is_shown j s t m ns nt a b && not (has m a b)) ≡ false
  not_new a b first second =
      let same = match_still a b first second in
      rw same (still_none j (is_some (row_at j ns nt a b)) (has m a b) (matches j ns nt a b))

  -- so a row that is as it was has new pairs with changed rows alone
  pub changed_pairs : (a : ℕ) (rows : Rows) → row_of s a ≡ row_of ns a → AreRowsOf nt rows
      → filter (λ x. is_shown j s t m ns nt x.0 x.1 && not (has m x.0 x.1)) (pairs_of a (changed_in t rows))
      ≡ filter (λ x. is_shown j s t m ns nt x.0 x.1 && not (has m x.0 x.1)) (pairs_with a rows)
  changed_pairs a [] first all = refl
  changed_pairs a (r ∷ rs) first all =
      let rest = changed_pairs a rs first all.1 in
      by_test (as_before (row_of t r.0) r.1)
      (λ e.
      let none = not_new a r.0 first (before_is (row_of t r.0) r.1 e ∙ sym all.0) in
      rw (e, none) rest)
      (λ e.
      rw e (by_test (is_shown j s t m ns nt a r.0 && not (has m a r.0))
      (λ q. rw q (ap (λ (xs : List (ℕ × ℕ)). (a, r.0) ∷ xs) rest))
      (λ q. rw q rest)))
