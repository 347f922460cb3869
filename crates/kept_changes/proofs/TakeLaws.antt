-- A list, one of whose items changes, and its first and last items.
use Rattle.std.proofs.Common.{◌≡◌, ℕ, zero, suc, ◌<◌, ◌≤◌, List, [], ◌∷◌, ◌++◌, length, take, drop, slice_index_or, slice_set, refl, ap, arith}

module _ {X : Type 0} where
  pub take_last : (xs : List X) (k : ℕ) (d : X) → k < length xs → take (suc k) xs ≡ take k xs ++ slice_index_or xs k d ∷ []
  take_last [] k d h = absurd (omega arith)
  take_last (x ∷ xs) zero d h = refl
  take_last (x ∷ xs) (suc k) d h = ap (λ (l : List X). x ∷ l) (take_last xs k d (omega arith))

  pub take_set : (xs : List X) (k : ℕ) (y : X) → take k (slice_set xs k y) ≡ take k xs
  take_set [] k y = refl
  take_set (x ∷ xs) zero y = refl
  take_set (x ∷ xs) (suc k) y = ap (λ (l : List X). x ∷ l) (take_set xs k y)

  pub drop_set : (xs : List X) (k : ℕ) (y : X) → k < length xs → drop k (slice_set xs k y) ≡ y ∷ drop (suc k) xs
  drop_set [] k y h = absurd (omega arith)
  drop_set (x ∷ xs) zero y h = refl
  drop_set (x ∷ xs) (suc k) y h = drop_set xs k y (omega arith)

  pub length_take : (xs : List X) (k : ℕ) → k ≤ length xs → length (take k xs) ≡ k
  length_take [] zero h = refl
  length_take [] (suc k) h = absurd (omega arith)
  length_take (x ∷ xs) zero h = refl
  length_take (x ∷ xs) (suc k) h = ap suc (length_take xs k (omega arith))

  pub length_set : (xs : List X) (k : ℕ) (y : X) → length (slice_set xs k y) ≡ length xs
  length_set [] k y = refl
  length_set (x ∷ xs) zero y = refl
  length_set (x ∷ xs) (suc k) y = ap suc (length_set xs k y)

  pub take_whole : (xs : List X) → take (length xs) xs ≡ xs
  take_whole [] = refl
  take_whole (x ∷ xs) = ap (λ (l : List X). x ∷ l) (take_whole xs)
