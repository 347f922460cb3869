-- Rows with the absent one in front.
use Rattle.std.proofs.Common.{◌≡◌, ℕ, ◌+◌, ◌≤◌, ◌==◌, List, [], ◌∷◌, length, Bool, true, false, IsSome, refl, ap, sym, subst, arith}
use Rattle.std.proofs.lemmas.Bool.{eqb-true, eq-eqb, ne_eqb}
use Rattle.row_store.specs.Rows.{Rows, RiseFrom, row_of}
use Rattle.op_law.specs.Tables.{RowsWide}
use Rattle.op_law.specs.Sound.{RowsSound}
use Rattle.op_rows.specs.Cells.{CellSound}
use Rattle.row_parts.specs.RowCells.{by_test}
use Rattle.row_parts.specs.inner.PlaceLemmas.{length-nulls, nulls_sound}
use Rattle.pair_rows.specs.inner.Lookups.{cell_sound}
use Rattle.outer_law.specs.Entries.{with_absent, some_row}

-- rows from n on have identifiers from n on
pub row_from : (n : ℕ) (rows : Rows) (id : ℕ) → RiseFrom n rows → IsSome (row_of rows id) → n ≤ id
row_from n [] id rise some = absurd (cc)
row_from n (r ∷ rs) id rise some =
    let low = rise.0 in
    by_test (r.0 == id)
    (λ q. let same = eqb-true r.0 id q in omega (arith, same, low))
    (λ q. let later : IsSome (row_of rs id) = rw q at some in let rest = row_from (r.0 + 1) rs id rise.1 later in omega (arith, rest, low))

-- from 1 on none is 0
pub not_zero : (a : ℕ) → 1 ≤ a → (a == 0) ≡ false
not_zero a h = ne_eqb a 0 (λ q. absurd (omega (arith, q, h)))

-- the other way round
pub zero_not : (a : ℕ) → 1 ≤ a → (0 == a) ≡ false
zero_not a h = ne_eqb 0 a (λ q. absurd (omega (arith, q, h)))

-- rows that are there
pub absent_there : (places : List ℕ) (rows : Rows) (id : ℕ) → IsSome (row_of rows id) → IsSome (row_of (with_absent places rows) id)
absent_there places rows id some = by_test (0 == id) (λ q. rw q refl) (λ q. rw q some)

-- the absent one
pub absent_zero : (places : List ℕ) (rows : Rows) (id : ℕ) → (id == 0) ≡ true → IsSome (row_of (with_absent places rows) id)
absent_zero places rows id q = let same = eqb-true id 0 q in subst (λ (i : ℕ). IsSome (row_of (with_absent places rows) i)) (sym same) refl

-- the others are as before
pub absent_other : (places : List ℕ) (rows : Rows) (id : ℕ) → 1 ≤ id → row_of (with_absent places rows) id ≡ row_of rows id
absent_other places rows id h = let other = zero_not id h in rw other refl

-- they rise
pub absent_rise : (places : List ℕ) (rows : Rows) → RiseFrom 1 rows → RiseFrom 0 (with_absent places rows)
absent_rise places rows rise = (omega arith, rise)

-- and are as wide
pub absent_wide : (places : List ℕ) (rows : Rows) → RowsWide (length places) rows → RowsWide (length places) (with_absent places rows)
absent_wide places rows wide = (length-nulls (length places), wide)

-- and have sound values
pub absent_sound : (places : List ℕ) (n : ℕ) (rows : Rows) (id : ℕ) → RowsSound n rows → CellSound n (row_of (with_absent places rows) id)
absent_sound places n rows id sound = by_test (0 == id) (λ q. rw q (nulls_sound n (length places))) (λ q. rw q (cell_sound n rows id sound))

-- a row that passes
pub some_found : (test : ℕ → Bool) (rows : Rows) (id : ℕ) → IsSome (row_of rows id) → test id ≡ true → some_row test rows ≡ true
some_found test [] id some h = absurd (cc)
some_found test (r ∷ rs) id some h =
    by_test (test r.0)
    (λ p. rw p refl)
    (λ p.
    rw p (by_test (r.0 == id)
    (λ q. let same : test r.0 ≡ test id = ap test (eqb-true r.0 id q) in absurd (cc))
    (λ q. let later : IsSome (row_of rs id) = rw q at some in some_found test rs id later h)))

-- the other way
pub some_is : (test : ℕ → Bool) (rows : Rows) (X : Type 0) → some_row test rows ≡ true → ((id : ℕ) → IsSome (row_of rows id) → test id ≡ true → X) → X
some_is test [] X h f = absurd (cc)
some_is test (r ∷ rs) X h f =
    by_test (test r.0)
    (λ p. let own = eq-eqb r.0 r.0 refl in f r.0 (rw own refl) p)
    (λ p.
    let later : some_row test rs ≡ true = rw p at h in
    some_is test rs X later (λ id some passes. f id (by_test (r.0 == id) (λ q. rw q refl) (λ q. rw q some)) passes))
