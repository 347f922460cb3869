-- Identifiers with a key, one after another, and what they are enough for.
use Rattle.std.proofs.Common.{◌≡◌, ℕ, ◌+◌, ◌<◌, ◌≤◌, ◌==◌, ◌&&◌, List, [], ◌∷◌, ◌++◌, filter, Bool, true, false, Some, None, refl, ap, sym, ◌∙◌, append_assoc, arith}
use Rattle.std.specs.Prelude.{nat_le}
use Rattle.std.proofs.lemmas.Bool.{and_parts, eqb-true, le-leb, leb-true}
use Rattle.std.proofs.lemmas.Bool.Decides.{nat_tests}
use Rattle.par_base.specs.SameRows.{same_row}
use Rattle.par_base.specs.declared.value.Value.{Value}
use Rattle.par_base.specs.inner.SameLaws.{row_equal, row_same}
use Rattle.row_store.specs.Rows.{Rows, RiseFrom, row_of}
use Rattle.row_store.specs.inner.FoundRows.{from_at, later, own_row}
use Rattle.row_parts.specs.RowCells.{by_test}
use Rattle.pair_rows.specs.Shown.{pairs_with}
use Rattle.pair_rows.specs.inner.Changed.{pairs_of, AreRowsOf}
use Rattle.pair_rows.proofs.ChangedLemmas.{rows_of}
use Rattle.key_index.specs.Found.{IsLeastFrom}
use Rattle.table_keys.specs.Keys.{key_by, keys_by}
use Rattle.table_keys.specs.declared.columns.KeyColumns.{KeyColumns}
use Rattle.equal_columns.specs.Keyed.{keyed_from}

-- a number that is less isn't at least as great
not_from : (from id : ℕ) → id < from → nat_le from id ≡ false
not_from from id h = grind (arith, nat_tests)

module _ (key : List Value) where
  -- of rows that begin behind both numbers the same ones are counted
  all_from : (rows : Rows) (k n p : ℕ) → RiseFrom k rows → n ≤ k → p ≤ k → keyed_from rows key n ≡ keyed_from rows key p
  all_from [] k n p rise one two = refl
  all_from (r ∷ rs) k n p rise one two =
      let low = rise.0 in
      let first : nat_le n r.0 ≡ true = le-leb n r.0 (omega (arith, one, low)) in
      let second : nat_le p r.0 ≡ true = le-leb p r.0 (omega (arith, two, low)) in
      let rest = all_from rs (r.0 + 1) n p rise.1 (omega (arith, one, low)) (omega (arith, two, low)) in
      rw (first, second) (by_test (same_row r.1 key)
      (λ e. rw e (ap (λ (ids : List ℕ). r.0 ∷ ids) rest))
      (λ e. rw e rest))

  -- a row that is passed over
  passed : (r : ℕ × List Value) (rs : Rows) (n : ℕ) → (n ≤ r.0 → row_of (r ∷ rs) r.0 ≡ Some key → ⊥) → (nat_le n r.0 && same_row r.1 key) ≡ false
  passed r rs n never =
      by_test (nat_le n r.0 && same_row r.1 key)
      (λ e.
      let both = and_parts (nat_le n r.0) (same_row r.1 key) e in
      absurd (never (leb-true n r.0 both.0) (own_row r rs ∙ ap (λ (v : List Value). Some v) (row_equal r.1 key both.1))))
      (λ e. e)

  -- the least one is the next
  pub next_found : (rows : Rows) (k n id : ℕ) → RiseFrom k rows → IsLeastFrom rows key n (Some id) → keyed_from rows key n ≡ id ∷ keyed_from rows key (id + 1)
  next_found [] k n id rise found = absurd (let none = found.1 in cc)
  next_found (r ∷ rs) k n id rise found =
      by_test (r.0 == id)
      (λ e.
      let same = eqb-true r.0 id e in
      let at : Some r.1 ≡ Some key = rw e at found.1 in
      let row : r.1 ≡ key = cc in
      let from = found.0 in
      let low : nat_le n r.0 ≡ true = le-leb n r.0 (omega (arith, from, same)) in
      let equal : same_row r.1 key ≡ true = ap (λ (v : List Value). same_row v key) row ∙ row_same key in
      let high = not_from (id + 1) r.0 (omega (arith, same)) in
      let rest = all_from rs (r.0 + 1) n (id + 1) rise.1 (omega (arith, from, same)) (omega (arith, same)) in
      rw (low, equal, high) (ap (λ (ids : List ℕ). r.0 ∷ ids) rest ∙ ap (λ (i : ℕ). i ∷ keyed_from rs key (id + 1)) same))
      (λ e.
      let at : row_of rs id ≡ Some key = rw e at found.1 in
      let after = from_at (r.0 + 1) rs id key rise.1 at in
      let one = passed r rs n (λ low here. let least = found.2 r.0 low here in absurd (omega (arith, least, after))) in
      let two = not_from (id + 1) r.0 (omega (arith, after)) in
      rw (one, two) (next_found rs (r.0 + 1) n id rise.1 (found.0, at, λ q low h. found.2 q low (later r rs q key rise.1 h))))

  -- where there is none, none is left
  pub none_found : (rows : Rows) (k n : ℕ) → RiseFrom k rows → IsLeastFrom rows key n None → keyed_from rows key n ≡ []
  none_found [] k n rise found = refl
  none_found (r ∷ rs) k n rise found =
      let one = passed r rs n (λ low here. found r.0 low here) in
      rw one (none_found rs (r.0 + 1) n rise.1 (λ q low h. found q low (later r rs q key rise.1 h)))

  -- one more of those that are found
  pub found_more : (rows : Rows) (n id : ℕ) (ids : List ℕ) → RiseFrom 0 rows → IsLeastFrom rows key n (Some id) → ids ++ keyed_from rows key n ≡ keyed_from rows key 0
      → (ids ++ id ∷ []) ++ keyed_from rows key (id + 1) ≡ keyed_from rows key 0
  found_more rows n id ids rise found is =
      append_assoc ids (id ∷ []) (keyed_from rows key (id + 1)) ∙ ap (λ (left : List ℕ). ids ++ left) (sym (next_found rows 0 n id rise found)) ∙ is

module _ (columns : KeyColumns) (key : List Value) (t : Rows) (a : ℕ) (test : ℕ × ℕ → Bool) (passes : (b : ℕ) (other : List Value) → row_of t b ≡ Some other → same_row (key_by columns other) key ≡ false → test (a, b) ≡ false) where
  -- what the others would add is nothing
  covers : (rows : Rows) → AreRowsOf t rows → filter test (pairs_of a (keyed_from (keys_by columns rows) key 0)) ≡ filter test (pairs_with a rows)
  covers [] all = refl
  covers (r ∷ rs) all =
      let rest = covers rs all.1 in
      let low : nat_le 0 r.0 ≡ true = le-leb 0 r.0 (omega arith) in
      by_test (same_row (key_by columns r.1) key)
      (λ e.
      rw (low, e) (by_test (test (a, r.0))
      (λ q. rw q (ap (λ (xs : List (ℕ × ℕ)). (a, r.0) ∷ xs) rest))
      (λ q. rw q rest)))
      (λ e. let no_pair = passes r.0 r.1 all.0 e in rw (low, e, no_pair) rest)

  pub keyed_cover : RiseFrom 0 t → filter test (pairs_of a (keyed_from (keys_by columns t) key 0)) ≡ filter test (pairs_with a t)
  keyed_cover rise = covers t (rows_of 0 t rise)
