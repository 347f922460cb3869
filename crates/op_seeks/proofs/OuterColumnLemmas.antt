-- Places from one on, and the columns at them.
use Rattle.std.specs.Prelude.{nat_lt, ◌||◌, ◌-◌, if◌then◌else◌}
use Rattle.std.proofs.Common.{◌≡◌, ℕ, zero, suc, ◌+◌, ◌<◌, ◌≤◌, ◌==◌, List, [], ◌∷◌, ◌++◌, length, Bool, true, option_map, Option, Some, None, refl, ap, sym, ◌∙◌, arith}
use Rattle.std.proofs.lemmas.Bool.{cases_lt, eq-eqb, eqb-true, le-ltb, lt-ltb, ne_eqb}
use mathlib.Core.Logic.{inl, inr}
use Rattle.op_law.proofs.OnlyLaws.{by_test}
use Rattle.op_outer_cond.specs.Outerings.{places_from}
use Rattle.equal_columns.specs.Columns.{column_at, column_if, place_in}

-- so many places
pub places_long : (from n : ℕ) → length (places_from from n) ≡ n
unfolding places_from
places_long from zero = refl
places_long from (suc n) = ap suc (places_long (from + 1) n)

-- no place
pub places_none : (from : ℕ) → [] ≡ places_from from 0
unfolding places_from
places_none from = refl

-- one place more behind
one_behind : (from n : ℕ) → places_from from (suc n) ≡ places_from from n ++ (from + n) ∷ []
unfolding places_from
one_behind from zero = ap (λ (k : ℕ). k ∷ []) (omega arith)
one_behind from (suc n) =
    let same : (from + 1) + n ≡ from + suc n = omega arith in
    ap (λ (ps : List ℕ). from ∷ ps) (one_behind (from + 1) n ∙ ap (λ (k : ℕ). places_from (from + 1) n ++ k ∷ []) same)

-- the same of a list that was made
pub places_more : (from n : ℕ) (made new : List ℕ) → made ≡ places_from from n → new ≡ made ++ (from + length made) ∷ [] → new ≡ places_from from (n + 1)
places_more from n made new is pushed =
    let long = ap length is ∙ places_long from n in
    let next : suc n ≡ n + 1 = omega arith in
    pushed ∙ ap (λ (k : ℕ). made ++ (from + k) ∷ []) long ∙ ap (λ (ps : List ℕ). ps ++ (from + n) ∷ []) is ∙ sym (one_behind from n) ∙ ap (places_from from) next

-- a place before them
place_before : (from n p : ℕ) → p < from → place_in (places_from from n) p ≡ None
unfolding places_from
place_before from zero p low = refl
place_before from (suc n) p low =
    let other = ne_eqb from p (λ e. absurd (omega (arith, low, e))) in
    rw other (ap (λ (o : Option ℕ). option_map (λ at. suc at) o) (place_before (from + 1) n p (omega (arith, low))))

-- behind them
place_past : (from n p : ℕ) → from + n ≤ p → place_in (places_from from n) p ≡ None
unfolding places_from
place_past from zero p high = refl
place_past from (suc n) p high =
    let other = ne_eqb from p (λ e. absurd (omega (arith, high, e))) in
    rw other (ap (λ (o : Option ℕ). option_map (λ at. suc at) o) (place_past (from + 1) n p (omega (arith, high))))

-- and among them
place_within : (from n p : ℕ) → from ≤ p → p < from + n → place_in (places_from from n) p ≡ Some (p - from)
unfolding places_from
place_within from zero p low high = absurd (omega (arith, low, high))
place_within from (suc n) p low high =
    by_test (from == p)
    (λ own. let same = eqb-true from p own in let none : 0 ≡ p - from = omega (arith, same) in rw own (ap (λ (k : ℕ). Some k) none))
    (λ other.
    let away : from ≡ p → ⊥ = λ e. let yes = eq-eqb from p e in absurd (cc) in
    let above : from + 1 ≤ p = elim (cases_lt from p) [
      | inl h ↦ omega (arith, h)
      | inr h ↦ absurd (away (omega (arith, low, h)))
    ] in
    let next : suc (p - (from + 1)) ≡ p - from = omega (arith, above) in
    rw other (ap (λ (o : Option ℕ). option_map (λ at. suc at) o) (place_within (from + 1) n p above (omega (arith, high))) ∙ ap (λ (k : ℕ). Some k) next))

-- the test of a place within the row
abbrev within : List ℕ → List ℕ → ℕ → Bool
within own others p = nat_lt p (length own) || nat_lt (p - length own) (length others)

module _ (own others : List ℕ) (p : ℕ) where
  -- of the other table
  of_other : (at : ℕ) → place_in others p ≡ Some at → column_at own others p ≡ None
  of_other at e = ap (λ (o : Option ℕ). column_if o (if within own others p then place_in own p else None)) e

  -- of this one
  of_own : (column : ℕ) → place_in others p ≡ None → within own others p ≡ true → place_in own p ≡ Some column → column_at own others p ≡ Some column
  of_own column none test at =
      ap (λ (o : Option ℕ). column_if o (if within own others p then place_in own p else None)) none
      ∙ ap (λ (t : Bool). if t then place_in own p else None) test ∙ at

  -- of none
  of_none : place_in others p ≡ None → place_in own p ≡ None → column_at own others p ≡ None
  of_none none at =
      ap (λ (o : Option ℕ). column_if o (if within own others p then place_in own p else None)) none
      ∙ by_test (within own others p)
      (λ u. ap (λ (t : Bool). if t then place_in own p else None) u ∙ at)
      (λ u. ap (λ (t : Bool). if t then place_in own p else None) u)

module _ (a b p : ℕ) where
  -- the columns of S
  pub first_column : p < a → Some p ≡ column_at (places_from 0 a) (places_from a b) p
  first_column low =
      let long = places_long 0 a in
      let yes = lt-ltb p (length (places_from 0 a)) (omega (arith, long, low)) in
      let same : p - 0 ≡ p = omega arith in
      sym (of_own (places_from 0 a) (places_from a b) p p (place_before a b p low) (rw yes refl) (place_within 0 a p (omega arith) (omega (arith, low)) ∙ ap (λ (k : ℕ). Some k) same))

  pub first_none : a ≤ p → None ≡ column_at (places_from 0 a) (places_from a b) p
  first_none high =
      sym (elim (cases_lt p (a + b)) [
        | inl h ↦ of_other (places_from 0 a) (places_from a b) p (p - a) (place_within a b p high h)
        | inr h ↦ of_none (places_from 0 a) (places_from a b) p (place_past a b p h) (place_past 0 a p (omega (arith, high)))
      ])

  -- and those of T
  pub second_low : p < a → None ≡ column_at (places_from a b) (places_from 0 a) p
  second_low low = sym (of_other (places_from a b) (places_from 0 a) p (p - 0) (place_within 0 a p (omega arith) (omega (arith, low))))

  pub second_column : a ≤ p → p - a < b → Some (p - a) ≡ column_at (places_from a b) (places_from 0 a) p
  second_column high low =
      let long = places_long a b in
      let other = places_long 0 a in
      let test : within (places_from a b) (places_from 0 a) p ≡ true =
      elim (cases_lt p b) [
        | inl h ↦ let yes = lt-ltb p (length (places_from a b)) (omega (arith, long, h)) in rw yes refl
        | inr h ↦
            let no = le-ltb p (length (places_from a b)) (omega (arith, long, h)) in
            let yes = lt-ltb (p - length (places_from a b)) (length (places_from 0 a)) (omega (arith, long, other, h, high, low)) in
            rw (no, yes) refl
      ] in
      sym (of_own (places_from a b) (places_from 0 a) p (p - a) (place_past 0 a p (omega (arith, high))) test (place_within a b p high (omega (arith, high, low))))

  pub second_none : a ≤ p → b ≤ p - a → None ≡ column_at (places_from a b) (places_from 0 a) p
  second_none high past = sym (of_none (places_from a b) (places_from 0 a) p (place_past 0 a p (omega (arith, high))) (place_past a b p (omega (arith, high, past))))
