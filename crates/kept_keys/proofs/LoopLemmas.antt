-- A loop that makes each of a list another one in place.
use Rattle.std.proofs.Common.{◌≡◌, ℕ, zero, suc, length, slice_index_or, slice_set, ◌+◌, ◌<◌, ◌≤◌, List, [], ◌∷◌, sym, subst, arith}
use Rattle.version_graph.specs.Sets.{Each}
use Rattle.row_store.specs.declared.change.Change.{Change}
use Rattle.version_model.specs.declared.numbered.Numbered.{Numbered}
use Rattle.table_keys.specs.States.{KeysState}
use Rattle.kept_keys.specs.Changed.{Both, IsPrepared, IsSameKeys}

-- the first are related to those that were there, and the others are as they were
abbrev pub Passed : {X : Type 0} → (X → X → Type 0) → ℕ → List X → List X → Type 0
Passed R zero all made = made ≡ all
Passed R (suc k) [] made = made ≡ []
Passed R (suc k) (x ∷ xs) [] = ⊥
Passed R (suc k) (x ∷ xs) (y ∷ ys) = R x y × Passed R k xs ys

-- the same keys, made ready for the changes
abbrev pub Prepares : List ℕ → List (Numbered (List Change)) → Numbered KeysState → Numbered KeysState → Type 0
Prepares tables made old new = IsSameKeys old new × IsPrepared tables made new

module _ {X : Type 0} (R : X → X → Type 0) where
  first_passed : (x : X) (xs made : List X) (d new : X) → made ≡ x ∷ xs → R (slice_index_or made zero d) new → Passed R (suc zero) (x ∷ xs) (slice_set made zero new)
  first_passed x xs [] d new e is = cc
  first_passed x xs (y ∷ ys) d new e is =
      let same : y ≡ x = cc in
      let rest : ys ≡ xs = cc in
      (subst (λ (z : X). R z new) same is, rest)

  -- one more
  pub one_more : (k : ℕ) (all made : List X) (d new : X) → k < length all → Passed R k all made → R (slice_index_or made k d) new → Passed R (suc k) all (slice_set made k new)
  one_more k [] made d new h are is = absurd (omega (arith, h))
  one_more zero (x ∷ xs) made d new h are is = first_passed x xs made d new are is
  one_more (suc k) (x ∷ xs) [] d new h are is = absurd are
  one_more (suc k) (x ∷ xs) (y ∷ ys) d new h are is = (are.0, one_more k xs ys d new (omega arith) are.1 is)

  -- all of them
  pub all_passed : (k : ℕ) (all made : List X) → length all ≤ k → Passed R k all made → Both R all made
  all_passed zero [] made h are = subst (λ (z : List X). Both R [] z) (sym are) tt
  all_passed (suc k) [] made h are = subst (λ (z : List X). Both R [] z) (sym are) tt
  all_passed zero (x ∷ xs) made h are = absurd (omega (arith, h))
  all_passed (suc k) (x ∷ xs) [] h are = absurd are
  all_passed (suc k) (x ∷ xs) (y ∷ ys) h are = (are.0, all_passed k xs ys (omega arith) are.1)

-- what is related more closely is related
pub passed_less : {X : Type 0} (R S : X → X → Type 0) → ((x y : X) → R x y → S x y) → (k : ℕ) (all made : List X) → Passed R k all made → Passed S k all made
passed_less R S less zero all made are = are
passed_less R S less (suc k) [] made are = are
passed_less R S less (suc k) (x ∷ xs) [] are = are
passed_less R S less (suc k) (x ∷ xs) (y ∷ ys) are = (less x y are.0, passed_less R S less k xs ys are.1)

pub both_less : {X : Type 0} (R S : X → X → Type 0) → ((x y : X) → R x y → S x y) → (all made : List X) → Both R all made → Both S all made
both_less R S less [] [] both = tt
both_less R S less [] (y ∷ ys) both = both
both_less R S less (x ∷ xs) [] both = both
both_less R S less (x ∷ xs) (y ∷ ys) both = (less x y both.0, both_less R S less xs ys both.1)

-- what holds of each that was made
pub each_made : {X : Type 0} (R : X → X → Type 0) (P : X → Type 0) → ((x y : X) → R x y → P y) → (all made : List X) → Both R all made → Each P made
each_made R P has [] [] both = tt
each_made R P has [] (y ∷ ys) both = absurd both
each_made R P has (x ∷ xs) [] both = absurd both
each_made R P has (x ∷ xs) (y ∷ ys) both = (has x y both.0, each_made R P has xs ys both.1)

module _ {X : Type 0} (R : X → X → Type 0) (own : (x : X) → R x x) where
  pub both_own : (xs : List X) → Both R xs xs
  both_own [] = tt
  both_own (x ∷ xs) = (own x, both_own xs)

  first_left : (x : X) (xs made : List X) (d new : X) → made ≡ x ∷ xs → R (slice_index_or made zero d) new → Both R (x ∷ xs) (slice_set made zero new)
  first_left x xs [] d new e is = cc
  first_left x xs (y ∷ ys) d new e is =
      let same : y ≡ x = cc in
      let rest : ys ≡ xs = cc in
      (subst (λ (z : X). R z new) same is, subst (λ (z : List X). Both R xs z) (sym rest) (both_own xs))

  -- where a loop ends early, the others are as they were
  pub left_early : (k : ℕ) (all made : List X) (d new : X) → k < length all → Passed R k all made → R (slice_index_or made k d) new → Both R all (slice_set made k new)
  left_early k [] made d new h are is = absurd (omega (arith, h))
  left_early zero (x ∷ xs) made d new h are is = first_left x xs made d new are is
  left_early (suc k) (x ∷ xs) [] d new h are is = absurd are
  left_early (suc k) (x ∷ xs) (y ∷ ys) d new h are is = (are.0, left_early k xs ys d new (omega arith) are.1 is)

-- what holds of each holds of one that wasn't passed yet
pub each_left : {X : Type 0} (R : X → X → Type 0) (P : X → Type 0) (k : ℕ) (all made : List X) (d : X) → k < length all → Each P all → Passed R k all made → P (slice_index_or made k d)
each_left R P k [] made d h each are = absurd (omega (arith, h))
each_left R P zero (x ∷ xs) made d h each are = subst (λ (z : List _). P (slice_index_or z zero d)) (sym are) each.0
each_left R P (suc k) (x ∷ xs) [] d h each are = absurd are
each_left R P (suc k) (x ∷ xs) (y ∷ ys) d h each are = each_left R P k xs ys d (omega arith) each.1 are.1
