-- Rows by ascending identifier, and what is found in them.
use Rattle.std.proofs.Common.{◌≡◌, ℕ, ◌+◌, ◌<◌, ◌≤◌, List, [], ◌∷◌, ◌++◌, Some, None, refl, arith}
use Rattle.std.proofs.lemmas.Bool.{cases_lt, eq-eqb}
use mathlib.Core.Logic.{inl, inr}
use Rattle.par_base.specs.declared.value.Value.{Value}
use Rattle.par_base.proofs.TestLaws.{apart_below, apart_above}
use Rattle.row_store.specs.Rows.{Rows, RiseFrom, AreBelow, row_of}

-- ---- identifiers

-- rows that begin at a number begin at a smaller one
pub rise_more : (n m : ℕ) (rows : Rows) → n ≤ m → RiseFrom m rows → RiseFrom n rows
rise_more n m [] h rise = tt
rise_more n m (r ∷ rs) h rise = (omega (arith, h, rise.0), rise.1)

-- a row of a greater identifier goes behind
pub rises_push : (n : ℕ) (rows : Rows) (id : ℕ) (row : List Value) → n ≤ id → RiseFrom n rows → AreBelow rows id → RiseFrom n (rows ++ (id, row) ∷ [])
rises_push n [] id row low rise below = (low, tt)
rises_push n (r ∷ rs) id row low rise below = (rise.0, rises_push (r.0 + 1) rs id row (omega (arith, below.0)) rise.1 below.1)

-- rows below a number are below a greater one
pub below_more : (rows : Rows) (n m : ℕ) → n ≤ m → AreBelow rows n → AreBelow rows m
below_more [] n m h below = tt
below_more (r ∷ rs) n m h below = (omega (arith, h, below.0), below_more rs n m h below.1)

-- and so are they with one behind
pub below_push : (rows : Rows) (id : ℕ) (row : List Value) → AreBelow rows id → AreBelow (rows ++ (id, row) ∷ []) (id + 1)
below_push [] id row below = (omega arith, tt)
below_push (r ∷ rs) id row below = (omega (arith, below.0), below_push rs id row below.1)

-- ---- what is found

-- the first row stands at its identifier
pub own_row : (r : ℕ × List Value) (rs : Rows) → row_of (r ∷ rs) r.0 ≡ Some r.1
own_row r rs = let own = eq-eqb r.0 r.0 refl in rw own refl

-- nothing stands below the first identifier
pub none_under : (n : ℕ) (rows : Rows) (id : ℕ) → RiseFrom n rows → id < n → row_of rows id ≡ None
none_under n [] id rise h = refl
none_under n (r ∷ rs) id rise h =
    let other = apart_above r.0 id (omega (arith, h, rise.0)) in
    rw other (none_under (r.0 + 1) rs id rise.1 (omega (arith, h, rise.0)))

-- nor above all
pub none_above : (rows : Rows) (n id : ℕ) → AreBelow rows n → n ≤ id → row_of rows id ≡ None
none_above [] n id below h = refl
none_above (r ∷ rs) n id below h =
    let other = apart_below r.0 id (omega (arith, h, below.0)) in
    rw other (none_above rs n id below.1 h)

-- an identifier that is there is not below the first
pub from_at : (n : ℕ) (rows : Rows) (id : ℕ) (row : List Value) → RiseFrom n rows → row_of rows id ≡ Some row → n ≤ id
from_at n rows id row rise at =
    elim (cases_lt id n) [ inl h ↦ let none = none_under n rows id rise h in absurd (cc) | inr h ↦ h ]

-- what stands in the rest stands in the whole
pub later : (r : ℕ × List Value) (rs : Rows) (id : ℕ) (row : List Value) → RiseFrom (r.0 + 1) rs → row_of rs id ≡ Some row → row_of (r ∷ rs) id ≡ Some row
later r rs id row rise at = let other = apart_below r.0 id (omega (arith, from_at (r.0 + 1) rs id row rise at)) in rw other at
