-- The identifiers of tables are those of their rows, each once.
use Rattle.std.specs.Prelude.{nat_lt}
use Rattle.std.proofs.Common.{◌≡◌, ℕ, ◌+◌, ◌<◌, ◌≤◌, ◌==◌, ◌⊎◌, List, [], ◌∷◌, Bool, true, false, cond, Option, Some, IsSome, refl, sym, ◌∙◌, arith, length}
use Rattle.std.proofs.lemmas.Bool.Decides.{nat_tests}
use Rattle.std.proofs.lemmas.Bool.{cases_order, false≢true, eqb-true, eq-eqb}
use mathlib.Core.Logic.{inl, inr}
use Rattle.par_base.specs.declared.value.Value.{Value}
use Rattle.row_store.specs.Rows.{Rows, row_of}
use Rattle.op_law.specs.Tables.{Tables}
use Rattle.op_law.specs.Sound.{HasRow}
use Rattle.op_law.specs.Identifiers.{put_id, ids_in, ids_over, has_id, IdsRise, NoneStandsTwice, AllWithRows}
use Rattle.op_law.proofs.OnlyLaws.{by_test}

-- tests in either order
cond_swap : (a b c : Bool) → cond a true (cond b true c) ≡ cond b true (cond a true c)
cond_swap true true c = refl
cond_swap true false c = refl
cond_swap false true c = refl
cond_swap false false c = refl

-- a test made twice
cond_twice : (a c : Bool) → cond a true c ≡ cond a true (cond a true c)
cond_twice true c = refl
cond_twice false c = refl

-- what identifiers a list has with one more
pub has_put : (i : ℕ) (xs : List ℕ) (id : ℕ) → has_id (put_id i xs) id ≡ cond (i == id) true (has_id xs id)
has_put i [] id = refl
has_put i (x ∷ xs) id =
    elim (cases_order i x) [
      | inl e ↦
          let no : nat_lt i x ≡ false = grind (arith, nat_tests) in
          let yes : (i == x) ≡ true = grind (arith, nat_tests) in
          rw (no, yes, e) (cond_twice (x == id) (has_id xs id))
      | inr (inl h) ↦
          let yes : nat_lt i x ≡ true = grind (arith, nat_tests) in
          rw yes refl
      | inr (inr h) ↦
          let no : nat_lt i x ≡ false = grind (arith, nat_tests) in
          let other : (i == x) ≡ false = grind (arith, nat_tests) in
          rw (no, other, has_put i xs id) (cond_swap (x == id) (i == id) (has_id xs id))
    ]

-- with one more, identifiers still rise
pub rise_put : (n i : ℕ) (xs : List ℕ) → n ≤ i → IdsRise n xs → IdsRise n (put_id i xs)
rise_put n i [] h rise = (h, tt)
rise_put n i (x ∷ xs) h rise =
    elim (cases_order i x) [
      | inl e ↦
          let no : nat_lt i x ≡ false = grind (arith, nat_tests) in
          let yes : (i == x) ≡ true = grind (arith, nat_tests) in
          rw (no, yes) rise
      | inr (inl k) ↦
          let yes : nat_lt i x ≡ true = grind (arith, nat_tests) in
          rw yes (h, (omega arith, rise.1))
      | inr (inr k) ↦
          let no : nat_lt i x ≡ false = grind (arith, nat_tests) in
          let other : (i == x) ≡ false = grind (arith, nat_tests) in
          rw (no, other) (rise.0, rise_put (x + 1) i xs (omega arith) rise.1)
    ]

-- with those of a table, whatever its order
rows_rise : (rows : Rows) (ids : List ℕ) → IdsRise 0 ids → IdsRise 0 (ids_in rows ids)
rows_rise [] ids rise = rise
rows_rise (r ∷ rs) ids rise = rise_put 0 r.0 (ids_in rs ids) (omega arith) (rows_rise rs ids rise)

-- with those of some tables
tables_rise : (ts : Tables) (ids : List ℕ) → IdsRise 0 ids → IdsRise 0 (ids_over ts ids)
tables_rise [] ids rise = rise
tables_rise (t ∷ ts) ids rise = tables_rise ts (ids_in t ids) (rows_rise t ids rise)

-- one of two tests passes
either_passes : (a b : Bool) → b ≡ true → cond a true b ≡ true
either_passes true b e = refl
either_passes false b e = e

-- what is listed stays listed, beside the identifiers of a table
stays_in : (rows : Rows) (ids : List ℕ) (id : ℕ) → has_id ids id ≡ true → has_id (ids_in rows ids) id ≡ true
stays_in [] ids id h = h
stays_in (r ∷ rs) ids id h = has_put r.0 (ids_in rs ids) id ∙ either_passes (r.0 == id) (has_id (ids_in rs ids) id) (stays_in rs ids id h)

-- likewise beside those of some tables
stays_over : (ts : Tables) (ids : List ℕ) (id : ℕ) → has_id ids id ≡ true → has_id (ids_over ts ids) id ≡ true
stays_over [] ids id h = h
stays_over (t ∷ ts) ids id h = stays_over ts (ids_in t ids) id (stays_in t ids id h)

-- the row that is asked for, or one behind it
row_listed_at : (b c : Bool) (own rest : Option (List Value)) → IsSome (cond b own rest) → (IsSome rest → c ≡ true) → cond b true c ≡ true
row_listed_at true c own rest some later = refl
row_listed_at false c own rest some later = later some

-- the identifier of a row is listed
row_listed : (rows : Rows) (ids : List ℕ) (id : ℕ) → IsSome (row_of rows id) → has_id (ids_in rows ids) id ≡ true
row_listed [] ids id some = absurd (false≢true some)
row_listed (r ∷ rs) ids id some = has_put r.0 (ids_in rs ids) id ∙ row_listed_at (r.0 == id) (has_id (ids_in rs ids) id) (Some r.1) (row_of rs id) some (row_listed rs ids id)

-- likewise that of a row of some tables
rows_listed : (ts : Tables) (ids : List ℕ) (id : ℕ) → HasRow id ts → has_id (ids_over ts ids) id ≡ true
rows_listed [] ids id has = absurd has
rows_listed (t ∷ ts) ids id (inl own) = stays_over ts (ids_in t ids) id (row_listed t ids id own)
rows_listed (t ∷ ts) ids id (inr other) = rows_listed ts (ids_in t ids) id other

-- an identifier that is listed is that of the first row, or of one behind it, or was listed before
has_in_at : (r : ℕ × List Value) (rs : Rows) (ids : List ℕ) (id : ℕ) (b : Bool) → cond b true (has_id (ids_in rs ids) id) ≡ true → (has_id (ids_in rs ids) id ≡ true → IsSome (row_of rs id) ⊎ (has_id ids id ≡ true)) → IsSome (cond b (Some r.1) (row_of rs id)) ⊎ (has_id ids id ≡ true)
has_in_at r rs ids id true e rest = inl refl
has_in_at r rs ids id false e rest = rest e

-- an identifier that is listed has a row in the table, or was listed before
has_in : (rows : Rows) (ids : List ℕ) (id : ℕ) → has_id (ids_in rows ids) id ≡ true → IsSome (row_of rows id) ⊎ (has_id ids id ≡ true)
has_in [] ids id h = inr h
has_in (r ∷ rs) ids id h = has_in_at r rs ids id (r.0 == id) (sym (has_put r.0 (ids_in rs ids) id) ∙ h) (has_in rs ids id)

-- an identifier that is listed has a row in some table, or was listed before
pub has_over : (ts : Tables) (ids : List ℕ) (id : ℕ) → has_id (ids_over ts ids) id ≡ true → HasRow id ts ⊎ (has_id ids id ≡ true)
has_over [] ids id h = inr h
has_over (t ∷ ts) ids id h =
    elim (has_over ts (ids_in t ids) id h) [
      | inl here ↦ inl (inr here)
      | inr rest ↦ elim (has_in t ids id rest) [ inl own ↦ inl (inl own) | inr old ↦ inr old ]
    ]

-- beside none, a listed identifier has a row
has_row : (ts : Tables) (id : ℕ) → HasRow id ts ⊎ (false ≡ true) → HasRow id ts
has_row ts id (inl has) = has
has_row ts id (inr none) = absurd (false≢true none)

pub none_stands_twice : NoneStandsTwice
none_stands_twice tables = tables_rise tables [] tt

pub all_with_rows : AllWithRows
all_with_rows tables id = (λ listed. has_row tables id (has_over tables [] id listed), rows_listed tables [] id)

-- no identifier stands before the least
pub none_before : (n : ℕ) (xs : List ℕ) (id : ℕ) → IdsRise n xs → id < n → has_id xs id ≡ false
none_before n [] id rise h = refl
none_before n (x ∷ xs) id rise h =
    let other : (x == id) ≡ false = grind (arith, nat_tests, rise.0) in
    rw other (none_before (x + 1) xs id rise.1 (omega (arith, rise.0)))

-- ascending identifiers among others are no more than those
pub no_more : (n k : ℕ) (xs ys : List ℕ) → IdsRise n xs → IdsRise k ys → ((id : ℕ) → has_id xs id ≡ true → has_id ys id ≡ true) → length xs ≤ length ys
no_more n k [] ys rise_x rise_y within = omega arith
no_more n k (x ∷ xs) [] rise_x rise_y within =
    let own = eq-eqb x x refl in
    let no : false ≡ true = within x (rw own refl) in
    absurd (false≢true no)
no_more n k (x ∷ xs) (y ∷ ys) rise_x rise_y within =
    let own = eq-eqb x x refl in
    let here = within x (rw own refl) in
    elim (cases_order x y) [
      | inl e ↦
          let rest = no_more (x + 1) (y + 1) xs ys rise_x.1 rise_y.1 (λ id has.
          by_test (y == id)
          (λ same. let low = none_before (x + 1) xs id rise_x.1 (omega (arith, eqb-true y id same)) in absurd (false≢true (sym low ∙ has)))
          (λ other. let there = within id (either_passes (x == id) (has_id xs id) has) in rw other at there)) in
          omega (arith, rest)
      | inr (inl h) ↦
          let low = none_before (x + 1) (y ∷ ys) x (omega arith, rise_y.1) (omega arith) in
          absurd (false≢true (sym low ∙ here))
      | inr (inr h) ↦
          let rest = no_more n (y + 1) (x ∷ xs) ys rise_x rise_y.1 (λ id has.
          by_test (y == id)
          (λ same. let low = none_before (y + 1) (x ∷ xs) id (omega arith, rise_x.1) (omega (arith, eqb-true y id same)) in absurd (false≢true (sym low ∙ has)))
          (λ other. let there = within id has in rw other at there)) in
          omega (arith, rest)
    ]
