-- Rows with the absent one in front, and tests of rows.
use Rattle.std.proofs.Common.{◌≡◌, ℕ, zero, suc, ◌+◌, ◌≤◌, ◌==◌, List, [], ◌∷◌, Bool, true, false, IsSome, refl, ap, sym, ◌∙◌, subst, arith}
use Rattle.std.proofs.lemmas.Bool.{eq-eqb, eqb-true, false≢true, ne_eqb}
use Rattle.row_store.specs.Rows.{Rows, RiseFrom, row_of}
use Rattle.op_law.specs.Local.{rows_only}
use Rattle.op_law.proofs.OnlyLaws.{row_in, row_out}
use Rattle.row_parts.specs.RowCells.{Cell, by_test}
use Rattle.outer_law.specs.Entries.{some_row, with_absent}
use Rattle.cond_parts.proofs.MemoryLemmas.{both_ways}

-- rows from n on have identifiers from n on
pub row_from : (n : ℕ) (rows : Rows) (id : ℕ) → RiseFrom n rows → IsSome (row_of rows id) → n ≤ id
row_from n [] id rise some = absurd (cc)
row_from n (r ∷ rs) id rise some =
    let low = rise.0 in
    by_test (r.0 == id)
    (λ q. let same = eqb-true r.0 id q in omega (arith, same, low))
    (λ q. let later : IsSome (row_of rs id) = rw q at some in let rest = row_from (r.0 + 1) rs id rise.1 later in omega (arith, rest, low))

-- an identifier from 1 on isn't 0, and the other way
pub not_zero : (a : ℕ) → 1 ≤ a → (a == 0) ≡ false
not_zero a h = ne_eqb a 0 (λ e. absurd (omega (arith, e, h)))

pub from_one : (a : ℕ) → (a == 0) ≡ false → 1 ≤ a
from_one zero e = absurd (false≢true (sym e))
from_one (suc a) e = omega arith

-- a row that is there, and isn't the absent one
zero_other : (a : ℕ) → (a == 0) ≡ false → (0 == a) ≡ false
zero_other a e = let low = from_one a e in ne_eqb 0 a (λ q. absurd (omega (arith, q, low)))

pub absent_other : (places : List ℕ) (rows : Rows) (a : ℕ) → (a == 0) ≡ false → row_of (with_absent places rows) a ≡ row_of rows a
absent_other places rows a e = let other = zero_other a e in rw other refl

pub real_there : (places : List ℕ) (rows : Rows) (a : ℕ) → (a == 0) ≡ false → IsSome (row_of (with_absent places rows) a) → IsSome (row_of rows a)
real_there places rows a e some = subst (λ (c : Cell). IsSome c) (absent_other places rows a e) some

-- the same row, where the real rows are
pub absent_same : (places : List ℕ) (rows now : Rows) (a : ℕ) → row_of now a ≡ row_of rows a → row_of (with_absent places now) a ≡ row_of (with_absent places rows) a
absent_same places rows now a same = by_test (0 == a) (λ q. rw q refl) (λ q. rw q same)

-- a row that passes a test is found
pub some_found : (test : ℕ → Bool) (rows : Rows) (id : ℕ) → IsSome (row_of rows id) → test id ≡ true → some_row test rows ≡ true
some_found test [] id some e = absurd (cc)
some_found test (r ∷ rs) id some e =
    by_test (r.0 == id)
    (λ q. let own : test r.0 ≡ true = ap test (eqb-true r.0 id q) ∙ e in rw own refl)
    (λ q. let later : IsSome (row_of rs id) = rw q at some in let rest = some_found test rs id later e in by_test (test r.0) (λ u. rw u refl) (λ u. rw u rest))

-- and one that is found
pub record Found (test : ℕ → Bool) (rows : Rows) : Type 0 where
  pub id : ℕ
  pub there : IsSome (row_of rows id)
  pub holds : test id ≡ true

pub some_is : (test : ℕ → Bool) (rows : Rows) → some_row test rows ≡ true → Found test rows
some_is test [] e = absurd (cc)
some_is test (r ∷ rs) e =
    by_test (test r.0)
    (λ u. let own = eq-eqb r.0 r.0 refl in record { id = r.0; there = rw own refl; holds = u })
    (λ u.
    let rest : some_row test rs ≡ true = rw u at e in
    let f = some_is test rs rest in
    record { id = f.id; there = by_test (r.0 == f.id) (λ q. rw q refl) (λ q. rw q f.there); holds = f.holds })

-- some row of a part passes where some row of the whole does
pub some_part : (P test small : ℕ → Bool) (rows : Rows) → ((b : ℕ) → P b ≡ true → IsSome (row_of rows b) → small b ≡ true → test b ≡ true)
    → ((b : ℕ) → IsSome (row_of rows b) → test b ≡ true → Found small (rows_only P rows)) → some_row small (rows_only P rows) ≡ some_row test rows
some_part P test small rows back forth =
    both_ways (some_row small (rows_only P rows)) (some_row test rows)
    (λ e.
    let f = some_is small (rows_only P rows) e in
    by_test (P f.id)
    (λ u. let there = subst (λ (c : Cell). IsSome c) (row_in P rows f.id u) f.there in some_found test rows f.id there (back f.id u there f.holds))
    (λ u. let none : false ≡ true = subst (λ (c : Cell). IsSome c) (row_out P rows f.id u) f.there in absurd (false≢true none)))
    (λ e. let f = some_is test rows e in let g = forth f.id f.there f.holds in some_found small (rows_only P rows) g.id g.there g.holds)
