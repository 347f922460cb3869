-- Rows of the other table, one after another, and by keys.
use Rattle.std.specs.Prelude.{option_map}
use Rattle.std.proofs.Common.{◌≡◌, ℕ, ◌+◌, ◌<◌, ◌==◌, List, [], ◌∷◌, ◌++◌, true, length, take, get_or, Option, Some, None, ap, sym, ◌∙◌, subst, arith}
use Rattle.std.proofs.lemmas.Bool.{cases_lt, eqb-true}
use Rattle.std.proofs.lemmas.List.{take_more}
use mathlib.Core.Logic.{inl, inr}
use Rattle.par_base.specs.declared.value.Value.{Value}
use Rattle.row_store.specs.Rows.{Rows, row_of}
use Rattle.op_law.specs.Identifiers.{has_id}
use Rattle.op_law.proofs.OnlyLaws.{by_test}
use Rattle.row_parts.specs.RowEdits.{value_at}
use Rattle.table_keys.specs.Keys.{key_by, keys_by}
use Rattle.table_keys.specs.declared.columns.KeyColumns.TheVariants.{One}
use Rattle.table_keys.proofs.KeyLaws.{key_row}
use Rattle.key_index.specs.Found.{IsLeastFrom}
use Rattle.op_cond_join.specs.Joinings.{joining}
use Rattle.pair_rows.specs.declared.half.Half.{Half}
use Rattle.pair_rows.specs.declared.half.Half.TheVariants.{First, Second}
use Rattle.pair_rows.specs.inner.JoinedRows.{joined_long}
use Rattle.pair_rows.specs.Shown.{Joining}
use Rattle.id_closing.proofs.FoundLaws.{end_has, end_stays}
use Rattle.cond_closing.specs.Keyed.{column_of, AreKeysOf, HasEqual, HasKeyed}
use Rattle.cond_closing.specs.Matching.{FindsMatches, FindsMatchesAt, HasMatches, joined_of, meets, others_of, own_of}
use Rattle.cond_closing.specs.Tabled.{AreTables}
use Rattle.cond_closing.specs.declared.by_keys.ByKeys.{ByKeys}
use Rattle.cond_closing.specs.declared.by_rows.ByRows.{ByRows}

-- a joined row is as wide as both parts
pub joined_wide : (j : Joining) (half : Half) (row other : List Value) → length (joined_of j half row other) ≡ length j.first + length j.second
joined_wide j First row other = joined_long j.first j.second row other
joined_wide j Second row other = joined_long j.first j.second other row

-- each row is so
abbrev pub EachRow : (ℕ → List Value → Type 0) → Rows → Type 0
EachRow P [] = Unit {0}
EachRow P (r ∷ rs) = P r.0 r.1 × EachRow P rs

each_more : (P : ℕ → List Value → Type 0) (rows : Rows) (r : ℕ × List Value) → EachRow P rows → P r.0 r.1 → EachRow P (rows ++ r ∷ [])
each_more P [] r all one = (one, tt)
each_more P (x ∷ xs) r all one = (all.0, each_more P xs r all.1 one)

pub each_then : (P Q : ℕ → List Value → Type 0) (rows : Rows) → ((b : ℕ) (v : List Value) → P b v → Q b v) → EachRow P rows → EachRow Q rows
each_then P Q [] then all = tt
each_then P Q (r ∷ rs) then all = (then r.0 r.1 all.0, each_then P Q rs then all.1)

pub each_at : (P : ℕ → List Value → Type 0) (rows : Rows) (b : ℕ) (v : List Value) → EachRow P rows → row_of rows b ≡ Some v → P b v
each_at P [] b v all at = absurd (cc)
each_at P (r ∷ rs) b v all at =
    by_test (r.0 == b)
    (λ e.
    let some : Some r.1 ≡ Some v = rw e at at in
    let value : r.1 ≡ v = cc in
    subst (λ (k : ℕ). P k v) (eqb-true r.0 b e) (subst (λ (w : List Value). P r.0 w) value all.0))
    (λ e. let rest : row_of rs b ≡ Some v = rw e at at in each_at P rs b v all.1 rest)

-- one row more of those that were gone over
pub each_next : (P : ℕ → List Value → Type 0) (rows : Rows) (i : ℕ) (row : ℕ × List Value) → i < length rows → row ≡ get_or rows i row → EachRow P (take i rows) → P row.0 row.1 → EachRow P (take (i + 1) rows)
each_next P rows i row within is all one =
    let taken : take (i + 1) rows ≡ take i rows ++ row ∷ [] = take_more rows i row within ∙ ap (λ (r : ℕ × List Value). take i rows ++ r ∷ []) (sym is) in
    rw taken (each_more P (take i rows) row all one)

-- that a row's identifier is listed, where it matches
abbrev pub ListsMet : Joining → Half → List Value → List ℕ → ℕ → List Value → Type 0
ListsMet j half row ids b other = meets j half row other ≡ true → has_id ids b ≡ true

pub all_met : (j : Joining) (half : Half) (row : List Value) (ids : List ℕ) (rows : Rows) → EachRow (ListsMet j half row ids) rows → HasMatches j half rows ids row
all_met j half row ids rows all b other at met = each_at (ListsMet j half row ids) rows b other all at met

-- by all rows
module _ (it : ByRows) (j : Joining) where
  others_are : (half : Half) (s t : Rows) → AreTables it s t → others_of half it.first.now.rows it.second.now.rows ≡ others_of half s t
  others_are First s t are = are.second
  others_are Second s t are = are.first

-- one key more of those up to the next
pub keyed_more : (rows : Rows) (key : List Value) (from : ℕ) (ids : List ℕ) (next : ℕ) (found : Option ℕ) → found ≡ Some next → IsLeastFrom rows key from found
    → ((b : ℕ) → b < from → row_of rows b ≡ Some key → has_id ids b ≡ true) → (b : ℕ) → b < next + 1 → row_of rows b ≡ Some key → has_id (ids ++ next ∷ []) b ≡ true
keyed_more rows key from ids next found some least has b low at =
    elim (cases_lt b from) [
      | inl h ↦ end_stays ids next b (has b h at)
      | inr h ↦
          let f = subst (λ (o : Option ℕ). IsLeastFrom rows key from o) some least in
          let up = f.2 b h at in
          let same : next ≡ b = omega (arith, up, low) in
          subst (λ (x : ℕ). has_id (ids ++ next ∷ []) x ≡ true) same (end_has ids next)
    ]

-- by keys
module _ (it : ByKeys) (equal : HasEqual it) where
  key_at : (column : ℕ) (keys rows : Rows) (b : ℕ) (row : List Value) → keys ≡ keys_by (One column) rows → row_of rows b ≡ Some row → row_of keys b ≡ Some (value_at column row ∷ [])
  key_at column keys rows b row are at = ap (λ (ks : Rows). row_of ks b) are ∙ key_row (One column) rows b ∙ ap (option_map (key_by (One column))) at

  key_none : (column : ℕ) (keys rows : Rows) (b : ℕ) (row : List Value) → keys ≡ keys_by (One column) rows → row_of rows b ≡ Some row → row_of keys b ≡ None → ⊥
  key_none column keys rows b row are at none = let bad : None ≡ Some (value_at column row ∷ []) = sym none ∙ key_at column keys rows b row are at in absurd (cc)

  pub keys_find : (half : Half) (row : List Value) (ids : List ℕ) → HasKeyed (others_of half it.first.now.rows it.second.now.rows) (value_at (column_of half it) row ∷ []) ids → FindsMatches (joining it.join.now) (AreKeysOf it) half ids row
  keys_find First row ids has s t known b other at met =
      has b (key_at it.y it.second.now.rows t b other known.second at ∙ ap (λ (v : Value). Some (v ∷ [])) (sym (equal row other met)))
  keys_find Second row ids has s t known b other at met =
      has b (key_at it.x it.first.now.rows s b other known.first at ∙ ap (λ (v : Value). Some (v ∷ [])) (equal other row met))

  pub keys_find_at : (half : Half) (id : ℕ) (key : List Value) (ids : List ℕ) → row_of (own_of half it.first.now.rows it.second.now.rows) id ≡ Some key
      → HasKeyed (others_of half it.first.now.rows it.second.now.rows) key ids → FindsMatchesAt (joining it.join.now) (AreKeysOf it) half ids id
  keys_find_at First id key ids at has s t row known is =
      let some : Some key ≡ Some (value_at it.x row ∷ []) = sym at ∙ key_at it.x it.first.now.rows s id row known.first is in
      let same : key ≡ value_at it.x row ∷ [] = cc in
      keys_find First row ids (subst (λ (k : List Value). HasKeyed it.second.now.rows k ids) same has) s t known
  keys_find_at Second id key ids at has s t row known is =
      let some : Some key ≡ Some (value_at it.y row ∷ []) = sym at ∙ key_at it.y it.second.now.rows t id row known.second is in
      let same : key ≡ value_at it.y row ∷ [] = cc in
      keys_find Second row ids (subst (λ (k : List Value). HasKeyed it.first.now.rows k ids) same has) s t known

  pub keys_find_none : (half : Half) (id : ℕ) (ids : List ℕ) → row_of (own_of half it.first.now.rows it.second.now.rows) id ≡ None → FindsMatchesAt (joining it.join.now) (AreKeysOf it) half ids id
  keys_find_none First id ids none s t row known is = absurd (key_none it.x it.first.now.rows s id row known.first is none)
  keys_find_none Second id ids none s t row known is = absurd (key_none it.y it.second.now.rows t id row known.second is none)
