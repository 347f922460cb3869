-- Lists whose first item of which a test holds is another one.
use Rattle.std.specs.Prelude.{nat_lt}
use Rattle.std.specs.List.{position, position_or_len}
use Rattle.std.proofs.Common.{◌≡◌, ℕ, zero, suc, ◌+◌, ◌<◌, List, [], ◌∷◌, ◌++◌, Bool, true, false, not, cond, length, Some, None, slice_index_or, slice_set, refl, ap, sym, subst, ◌∙◌, arith}
use Rattle.std.proofs.lemmas.Bool.Decides.{nat_tests}
use Rattle.std.proofs.lemmas.Bool.{false≢true}

pub less : (a b : ℕ) → nat_lt (suc a) (suc b) ≡ true → nat_lt a b ≡ true
less a b h = grind (arith, nat_tests)

below : (a b : ℕ) → nat_lt a b ≡ true → a < b
below a b h = grind (arith, nat_tests)

module _ {X : Type 0} (p : X → Bool) where
  -- the place of the first
  abbrev pub place : List X → ℕ
  place [] = zero
  place (x ∷ xs) = cond (p x) zero (suc (place xs))

  place_is : (xs : List X) → position_or_len p xs ≡ place xs
  place_is [] = refl
  place_is (x ∷ xs) =
      let one : 1 + position_or_len p xs ≡ suc (place xs) = omega (arith, place_is xs) in
      let M : Bool → Type 0 = λ b. cond (not b) (1 + position_or_len p xs) 0 ≡ cond b zero (suc (place xs)) in
      elim (p x) as (λ b. M b) [ true ↦ refl | false ↦ one ]

  position_is : (xs : List X) → position p xs ≡ cond (nat_lt (place xs) (length xs)) (Some (place xs)) None
  position_is xs = ap (λ (n : ℕ). cond (nat_lt n (length xs)) (Some n) None) (place_is xs)

  placed_if : (xs : List X) (at : ℕ) (b : Bool) → nat_lt (place xs) (length xs) ≡ b → cond b (Some (place xs)) None ≡ Some at → (nat_lt (place xs) (length xs) ≡ true) × (at ≡ place xs)
  placed_if xs at true is found = (is, cc)
  placed_if xs at false is found = absurd (cc)

  pub placed : (xs : List X) (at : ℕ) → position p xs ≡ Some at → (nat_lt (place xs) (length xs) ≡ true) × (at ≡ place xs)
  placed xs at found = placed_if xs at (nat_lt (place xs) (length xs)) refl (sym (position_is xs) ∙ found)

  pub place_within : (xs : List X) (at : ℕ) → position p xs ≡ Some at → at < length xs
  place_within xs at found = let h = placed xs at found in subst (λ (n : ℕ). n < length xs) (sym h.1) (below (place xs) (length xs) h.0)

  unplaced_if : (xs : List X) (b : Bool) → nat_lt (place xs) (length xs) ≡ b → cond b (Some (place xs)) None ≡ None → nat_lt (place xs) (length xs) ≡ false
  unplaced_if xs true is found = absurd (cc)
  unplaced_if xs false is found = is

  unplaced : (xs : List X) → position p xs ≡ None → nat_lt (place xs) (length xs) ≡ false
  unplaced xs found = unplaced_if xs (nat_lt (place xs) (length xs)) refl (sym (position_is xs) ∙ found)

  -- the first is another one
  abbrev pub put : (X → X) → List X → List X
  put f [] = []
  put f (x ∷ xs) = cond (p x) (f x ∷ xs) (x ∷ put f xs)

  set_one : (f : X → X) (x : X) (xs : List X) (d : X) (b : Bool) → nat_lt (cond b zero (suc (place xs))) (suc (length xs)) ≡ true
      → (nat_lt (place xs) (length xs) ≡ true → slice_set xs (place xs) (f (slice_index_or xs (place xs) d)) ≡ put f xs)
      → slice_set (x ∷ xs) (cond b zero (suc (place xs))) (f (slice_index_or (x ∷ xs) (cond b zero (suc (place xs))) d)) ≡ cond b (f x ∷ xs) (x ∷ put f xs)
  set_one f x xs d true within rest = refl
  set_one f x xs d false within rest = ap (λ (l : List X). x ∷ l) (rest (less (place xs) (length xs) within))

  set_there : (f : X → X) (xs : List X) (d : X) → nat_lt (place xs) (length xs) ≡ true → slice_set xs (place xs) (f (slice_index_or xs (place xs) d)) ≡ put f xs
  set_there f [] d within = absurd (false≢true within)
  set_there f (x ∷ xs) d within = set_one f x xs d (p x) within (λ inside. set_there f xs d inside)

  -- an item at the first place is the first
  pub set_put : (f : X → X) (xs : List X) (at : ℕ) (d : X) → position p xs ≡ Some at → slice_set xs at (f (slice_index_or xs at d)) ≡ put f xs
  set_put f xs at d found =
      let h = placed xs at found in
      ap (λ (n : ℕ). slice_set xs n (f (slice_index_or xs n d))) h.1 ∙ set_there f xs d h.0

  none_one : (f : X → X) (x : X) (xs : List X) (b : Bool) → nat_lt (cond b zero (suc (place xs))) (suc (length xs)) ≡ false → (nat_lt (place xs) (length xs) ≡ false → put f xs ≡ xs) → cond b (f x ∷ xs) (x ∷ put f xs) ≡ x ∷ xs
  none_one f x xs true out rest = absurd (let h : nat_lt zero (suc (length xs)) ≡ true = grind (arith, nat_tests) in false≢true (sym out ∙ h))
  none_one f x xs false out rest = ap (λ (l : List X). x ∷ l) (rest (grind (arith, nat_tests)))

  none_there : (f : X → X) (xs : List X) → nat_lt (place xs) (length xs) ≡ false → put f xs ≡ xs
  none_there f [] out = refl
  none_there f (x ∷ xs) out = none_one f x xs (p x) out (λ inside. none_there f xs inside)

  -- where there is no place nothing changes
  pub none_put : (f : X → X) (xs : List X) → position p xs ≡ None → put f xs ≡ xs
  none_put f xs found = none_there f xs (unplaced xs found)

  -- one more item, of which the test holds, is the first where there was none
  more_one : (x y : X) (xs : List X) (b : Bool) → nat_lt (cond b zero (suc (place xs))) (suc (length xs)) ≡ false → (nat_lt (place xs) (length xs) ≡ false → place (xs ++ y ∷ []) ≡ length xs) → cond b zero (suc (place (xs ++ y ∷ []))) ≡ suc (length xs)
  more_one x y xs true out rest = absurd (let h : nat_lt zero (suc (length xs)) ≡ true = grind (arith, nat_tests) in false≢true (sym out ∙ h))
  more_one x y xs false out rest = ap suc (rest (grind (arith, nat_tests)))

  more_there : (xs : List X) (y : X) → p y ≡ true → nat_lt (place xs) (length xs) ≡ false → place (xs ++ y ∷ []) ≡ length xs
  more_there [] y holds out = ap (λ (b : Bool). cond b zero (suc zero)) holds
  more_there (x ∷ xs) y holds out = more_one x y xs (p x) out (λ inside. more_there xs y holds inside)

  length_more : (xs : List X) (y : X) → length (xs ++ y ∷ []) ≡ suc (length xs)
  length_more [] y = refl
  length_more (x ∷ xs) y = ap suc (length_more xs y)

  pub place_more : (xs : List X) (y : X) → p y ≡ true → position p xs ≡ None → position p (xs ++ y ∷ []) ≡ Some (length xs)
  place_more xs y holds found =
      let h : nat_lt (length xs) (suc (length xs)) ≡ true = grind (arith, nat_tests) in
      position_is (xs ++ y ∷ [])
      ∙ ap (λ (n : ℕ). cond (nat_lt n (length (xs ++ y ∷ []))) (Some n) None) (more_there xs y holds (unplaced xs found))
      ∙ ap (λ (n : ℕ). cond (nat_lt (length xs) n) (Some (length xs)) None) (length_more xs y)
      ∙ ap (λ (b : Bool). cond b (Some (length xs)) None) h
