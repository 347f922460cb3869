-- Look-ups in rows that were filtered, and in rows with further ones behind.
use Rattle.std.proofs.Common.{◌≡◌, ℕ, ◌+◌, ◌<◌, ◌==◌, ◌⊎◌, List, [], ◌∷◌, ◌++◌, length, filter, Bool, true, false, Some, None, IsSome, refl, ap, subst, arith}
use Rattle.std.proofs.lemmas.Bool.{eqb-true, eq-eqb, ne_eqb}
use mathlib.Core.Logic.{inl, inr}
use Rattle.par_base.specs.declared.value.Value.{Value}
use Rattle.row_store.specs.Rows.{Rows, RiseFrom, AreBelow, row_of}
use Rattle.row_store.specs.inner.FoundRows.{rise_more}
use Rattle.op_law.specs.Tables.{RowsWide}
use Rattle.op_law.specs.Sound.{IsBelow, ValuesSound, RowsSound}
use Rattle.op_rows.specs.Cells.{CellSound, with_row}
use Rattle.row_parts.specs.RowCells.{Cell, by_test}

-- a row that is found stays found where further rows stand behind
pub found_before : (xs ys : Rows) (id : ℕ) (row : List Value) → row_of xs id ≡ Some row → row_of (xs ++ ys) id ≡ Some row
found_before [] ys id row found = absurd (cc)
found_before (x ∷ xs) ys id row found =
    by_test (x.0 == id)
    (λ e. let here : Some x.1 ≡ Some row = rw e at found in rw e here)
    (λ e. let later : row_of xs id ≡ Some row = rw e at found in rw e (found_before xs ys id row later))

-- the row behind all others is found
pub found_behind : (xs : Rows) (id : ℕ) (row : List Value) → AreBelow xs id → row_of (xs ++ (id, row) ∷ []) id ≡ Some row
found_behind [] id row below = let own = eq-eqb id id refl in rw own refl
found_behind (x ∷ xs) id row below =
    let other : (x.0 == id) ≡ false = ne_eqb x.0 id (λ e. let b = below.0 in absurd (omega (arith, e, b))) in
    rw other (found_behind xs id row below.1)

-- what is found in rows with one behind, is found in them or is the one behind
pub behind_or : (xs : Rows) (id n : ℕ) (row : List Value) → IsSome (row_of (xs ++ (n, row) ∷ []) id) → IsSome (row_of xs id) ⊎ (n ≡ id)
behind_or [] id n row some = by_test (n == id) (λ e. inr (eqb-true n id e)) (λ e. let none : false ≡ true = rw e at some in absurd (cc))
behind_or (x ∷ xs) id n row some =
    by_test (x.0 == id)
    (λ e. inl (rw e refl))
    (λ e. let later : IsSome (row_of (xs ++ (n, row) ∷ []) id) = rw e at some in rw e (behind_or xs id n row later))

-- rows that pass a test of their identifiers
pub filter_found : (test : ℕ → Bool) (rows : Rows) (id : ℕ) → test id ≡ true → row_of (filter (λ r. test r.0) rows) id ≡ row_of rows id
filter_found test [] id passes = refl
filter_found test (r ∷ rs) id passes =
    by_test (test r.0)
    (λ e. rw e (by_test (r.0 == id) (λ q. rw q refl) (λ q. rw q (filter_found test rs id passes))))
    (λ e.
    let other = ne_eqb r.0 id (λ q. let same : test r.0 ≡ test id = ap test q in absurd (cc)) in
    rw (e, other) (filter_found test rs id passes))

-- a row that fails the test isn't there
pub filter_lost : (test : ℕ → Bool) (rows : Rows) (id : ℕ) → test id ≡ false → row_of (filter (λ r. test r.0) rows) id ≡ None
filter_lost test [] id fails = refl
filter_lost test (r ∷ rs) id fails =
    by_test (test r.0)
    (λ e.
    let other = ne_eqb r.0 id (λ q. let same : test r.0 ≡ test id = ap test q in absurd (cc)) in
    rw (e, other) (filter_lost test rs id fails))
    (λ e. rw e (filter_lost test rs id fails))

-- what is there was there
pub filter_has : (test : ℕ → Bool) (rows : Rows) (id : ℕ) → IsSome (row_of (filter (λ r. test r.0) rows) id) → IsSome (row_of rows id)
filter_has test rows id some =
    by_test (test id)
    (λ e. subst (λ (c : Cell). IsSome c) (filter_found test rows id e) some)
    (λ e. let none = filter_lost test rows id e in let lost : false ≡ true = subst (λ (c : Cell). IsSome c) none some in absurd (cc))

-- rows that pass rise
pub filter_rise : (test : ℕ → Bool) (n : ℕ) (rows : Rows) → RiseFrom n rows → RiseFrom n (filter (λ r. test r.0) rows)
filter_rise test n [] rise = tt
filter_rise test n (r ∷ rs) rise =
    by_test (test r.0)
    (λ e. rw e (rise.0, filter_rise test (r.0 + 1) rs rise.1))
    (λ e. rw e (filter_rise test n rs (rise_more n (r.0 + 1) rs (let low = rise.0 in omega (arith, low)) rise.1)))

-- and are as wide
pub filter_wide : (test : ℕ → Bool) (w : ℕ) (rows : Rows) → RowsWide w rows → RowsWide w (filter (λ r. test r.0) rows)
filter_wide test w [] wide = tt
filter_wide test w (r ∷ rs) wide =
    by_test (test r.0) (λ e. rw e (wide.0, filter_wide test w rs wide.1)) (λ e. rw e (filter_wide test w rs wide.1))

-- and are as sound
pub filter_sound : (test : ℕ → Bool) (n : ℕ) (rows : Rows) → RowsSound n rows → RowsSound n (filter (λ r. test r.0) rows)
filter_sound test n [] sound = tt
filter_sound test n (r ∷ rs) sound =
    by_test (test r.0) (λ e. rw e (sound.0, filter_sound test n rs sound.1)) (λ e. rw e (filter_sound test n rs sound.1))

-- all pass
pub filter_all : (test : ℕ → Bool) (rows : Rows) → ((id : ℕ) → test id ≡ true) → filter (λ r. test r.0) rows ≡ rows
filter_all test [] all = refl
filter_all test (r ∷ rs) all = let e = all r.0 in rw e (ap (λ (rest : Rows). r ∷ rest) (filter_all test rs all))

-- rows with one behind
pub wide_behind : (w : ℕ) (xs : Rows) (id : ℕ) (row : List Value) → RowsWide w xs → length row ≡ w → RowsWide w (xs ++ (id, row) ∷ [])
wide_behind w [] id row wide long = (long, tt)
wide_behind w (x ∷ xs) id row wide long = (wide.0, wide_behind w xs id row wide.1 long)

-- sound with one behind
pub sound_behind : (n : ℕ) (xs : Rows) (id : ℕ) (row : List Value) → RowsSound n xs → IsBelow n id → ValuesSound n row → RowsSound n (xs ++ (id, row) ∷ [])
sound_behind n [] id row sound below values = ((below, values), tt)
sound_behind n (x ∷ xs) id row sound below values = (sound.0, sound_behind n xs id row sound.1 below values)

-- and as sound
pub cell_sound : (n : ℕ) (rows : Rows) (id : ℕ) → RowsSound n rows → CellSound n (row_of rows id)
cell_sound n [] id sound = tt
cell_sound n (r ∷ rs) id sound = by_test (r.0 == id) (λ e. rw e sound.0.1) (λ e. rw e (cell_sound n rs id sound.1))

-- an identifier that is there is below
pub below_some : (n : ℕ) (rows : Rows) (id : ℕ) → RowsSound n rows → IsSome (row_of rows id) → IsBelow n id
below_some n [] id sound some = absurd (cc)
below_some n (r ∷ rs) id sound some =
    by_test (r.0 == id)
    (λ e. subst (λ (i : ℕ). IsBelow n i) (eqb-true r.0 id e) sound.0.0)
    (λ e. let later : IsSome (row_of rs id) = rw e at some in below_some n rs id sound.1 later)

-- what passes of two lists
pub filter_append : {X : Type 0} (test : X → Bool) (xs ys : List X) → filter test (xs ++ ys) ≡ filter test xs ++ filter test ys
filter_append test [] ys = refl
filter_append test (x ∷ xs) ys = let rest = filter_append test xs ys in by_test (test x) (λ e. rw e (ap (λ (zs : List _). x ∷ zs) rest)) (λ e. rw e rest)

-- a row in front of two lists
pub with_append : (p : ℕ) (c : Cell) (xs ys : Rows) → with_row p c (xs ++ ys) ≡ with_row p c xs ++ ys
with_append p None xs ys = refl
with_append p (Some row) xs ys = refl

-- a row in front is below too
pub with_below : (p n : ℕ) (c : Cell) (rows : Rows) → p < n → AreBelow rows n → AreBelow (with_row p c rows) n
with_below p n None rows h below = below
with_below p n (Some row) rows h below = (h, below)
