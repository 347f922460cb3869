-- Pairs that are taken, and those of rows that are unchanged.
use Rattle.std.proofs.Common.{◌≡◌, ℕ, ◌<◌, ◌≤◌, List, [], ◌∷◌, ◌++◌, true, false, Option, Some, None, refl, ap, arith}
use Rattle.std.proofs.lemmas.Bool.{ne_eqb}
use Rattle.par_base.specs.declared.value.Value.{Value}
use Rattle.id_memory.specs.Pairs.{Pairs, has_pair}
use Rattle.row_parts.specs.RowCells.{Cell, by_test}
use Rattle.par_base.specs.SameRows.{same_row}
use Rattle.par_base.specs.inner.SameLaws.{row_equal}
use Rattle.pair_rows.specs.Shown.{has}
use Rattle.pair_rows.specs.Given.{unchanged}

-- the first identifiers of all entries are below
abbrev pub FirstsBelow : ℕ → Pairs → Type 0
FirstsBelow n [] = Unit {0}
FirstsBelow n (e ∷ es) = (e.1 < n) × FirstsBelow n es

-- below a greater number
pub firsts_weaker : (n k : ℕ) (es : Pairs) → n ≤ k → FirstsBelow n es → FirstsBelow k es
firsts_weaker n k [] h below = tt
firsts_weaker n k (e ∷ es) h below = (let b = below.0 in omega (arith, h, b), firsts_weaker n k es h below.1)

-- below with one behind
pub firsts_behind : (n : ℕ) (es : Pairs) (e : ℕ × ℕ × ℕ) → FirstsBelow n es → e.1 < n → FirstsBelow n (es ++ e ∷ [])
firsts_behind n [] e below h = (h, tt)
firsts_behind n (x ∷ xs) e below h = (below.0, firsts_behind n xs e below.1 h)

-- a pair that is taken besides
pub has_behind : (es : Pairs) (e : ℕ × ℕ × ℕ) (a b : ℕ) → has_pair a b e ≡ true → has (es ++ e ∷ []) a b ≡ true
has_behind [] e a b h = rw h refl
has_behind (x ∷ xs) e a b h = by_test (has_pair a b x) (λ q. rw q refl) (λ q. rw q (has_behind xs e a b h))

-- another pair is taken as before
pub has_before : (es : Pairs) (e : ℕ × ℕ × ℕ) (a b : ℕ) → has_pair a b e ≡ false → has (es ++ e ∷ []) a b ≡ has es a b
has_before [] e a b h = rw h refl
has_before (x ∷ xs) e a b h = by_test (has_pair a b x) (λ q. rw q refl) (λ q. rw q (has_before xs e a b h))

-- a pair with a new first identifier isn't taken
pub not_taken : (n a b : ℕ) (es : Pairs) → n ≤ a → FirstsBelow n es → has es a b ≡ false
not_taken n a b [] h below = refl
not_taken n a b (e ∷ es) h below =
    let low = below.0 in
    let other = ne_eqb e.1 a (λ q. absurd (omega (arith, q, low, h))) in
    rw other (not_taken n a b es h below.1)

-- the old identifier of an identifier whose row is unchanged
pub unchanged_pair : (old : Cell) (pair : Option (ℕ × ℕ)) (row : List Value) (k : ℕ × ℕ) → unchanged old pair row ≡ Some k → pair ≡ Some k
unchanged_pair None pair row k e = absurd (cc)
unchanged_pair (Some old) pair row k e =
    by_test (same_row old row)
    (λ q. rw q at e)
    (λ q. let none : ◌≡◌ {A = Option (ℕ × ℕ)} None (Some k) = rw q at e in absurd (cc))

-- and its row
pub unchanged_row : (old : Cell) (pair : Option (ℕ × ℕ)) (row : List Value) (k : ℕ × ℕ) → unchanged old pair row ≡ Some k → old ≡ Some row
unchanged_row None pair row k e = absurd (cc)
unchanged_row (Some old) pair row k e =
    by_test (same_row old row)
    (λ q. ap (λ (v : List Value). Some v) (row_equal old row q))
    (λ q. let none : ◌≡◌ {A = Option (ℕ × ℕ)} None (Some k) = rw q at e in absurd (cc))
