-- Lists as sets.
use Rattle.std.proofs.Common.{◌≡◌, ℕ, List, [], ◌∷◌, ◌++◌, Bool, true, false, inl, inr, refl, sym, ap, subst, map}
use Rattle.std.specs.Prelude.{◌⊎◌, ◌==◌, ◌||◌}
use Rattle.std.proofs.lemmas.Bool.{eqb-true, eq-eqb, false≢true}
use Rattle.version_graph.specs.Sets.{In, Each}
use Rattle.version_graph.specs.Edges.{is_in}

module _ {X : Type 0} (P : X → Type 0) where
  pub each_append : (xs ys : List X) → Each P xs → Each P ys → Each P (xs ++ ys)
  each_append [] ys h k = k
  each_append (x ∷ xs) ys h k = (h.0, each_append xs ys h.1 k)

  pub each_more : (Q : X → Type 0) → ((x : X) → P x → Q x) → (xs : List X) → Each P xs → Each Q xs
  each_more Q f [] h = tt
  each_more Q f (x ∷ xs) h = (f x h.0, each_more Q f xs h.1)

  pub each_at : (xs : List X) (x : X) → In x xs → Each P xs → P x
  each_at [] x i h = absurd i
  each_at (y ∷ ys) x (inl e) h = subst P (sym e) h.0
  each_at (y ∷ ys) x (inr i) h = each_at ys x i h.1

  pub each_of : (xs : List X) → ((x : X) → In x xs → P x) → Each P xs
  each_of [] h = tt
  each_of (y ∷ ys) h = (h y (inl refl), each_of ys (λ x i. h x (inr i)))

pub each_both : {X : Type 0} (P Q R : X → Type 0) → ((x : X) → P x → Q x → R x) → (xs : List X) → Each P xs → Each Q xs → Each R xs
each_both P Q R f [] h k = tt
each_both P Q R f (x ∷ xs) h k = (f x h.0 k.0, each_both P Q R f xs h.1 k.1)

module _ {X : Type 0} where
  pub in_append : (x : X) (xs ys : List X) → In x (xs ++ ys) → In x xs ⊎ In x ys
  in_append x [] ys h = inr h
  in_append x (z ∷ xs) ys (inl e) = inl (inl e)
  in_append x (z ∷ xs) ys (inr h) = elim (in_append x xs ys h) as (λ _. In x (z ∷ xs) ⊎ In x ys) [ inl a ↦ inl (inr a) | inr b ↦ inr b ]

  pub in_left : (x : X) (xs ys : List X) → In x xs → In x (xs ++ ys)
  in_left x [] ys h = absurd h
  in_left x (z ∷ xs) ys (inl e) = inl e
  in_left x (z ∷ xs) ys (inr h) = inr (in_left x xs ys h)

  pub in_right : (x : X) (xs ys : List X) → In x ys → In x (xs ++ ys)
  in_right x [] ys h = h
  in_right x (z ∷ xs) ys h = inr (in_right x xs ys h)

pub in_map : {X Y : Type 0} (f : X → Y) (x : X) (xs : List X) → In x xs → In (f x) (map f xs)
in_map f x [] i = i
in_map f x (z ∷ xs) (inl e) = inl (ap f e)
in_map f x (z ∷ xs) (inr i) = inr (in_map f x xs i)

-- an item of an image has an origin
pub origin : {X Y : Type 0} (f : X → Y) (y : Y) (xs : List X) → In y (map f xs) → (x : X) × In x xs × (y ≡ f x)
origin f y [] i = absurd i
origin f y (x ∷ xs) (inl e) = (x, inl refl, e)
origin f y (x ∷ xs) (inr i) = let o = origin f y xs i in (o.0, inr o.1, o.2)

pub is_in_true : (n : ℕ) (ks : List ℕ) → In n ks → is_in n ks ≡ true
is_in_true n [] i = absurd i
is_in_true n (k ∷ ks) (inl e) = ap (λ (b : Bool). b || is_in n ks) (eq-eqb n k e)
is_in_true n (k ∷ ks) (inr i) =
    elim (n == k) as (λ b. (b || is_in n ks) ≡ true) [ true ↦ refl | false ↦ is_in_true n ks i ]

from_test : (n k : ℕ) (ks : List ℕ) (b : Bool) → (n == k) ≡ b → (is_in n ks ≡ true → In n ks) → (b || is_in n ks) ≡ true → In n (k ∷ ks)
from_test n k ks true is more e = inl (eqb-true n k is)
from_test n k ks false is more e = inr (more e)

pub in_of_test : (n : ℕ) (ks : List ℕ) → is_in n ks ≡ true → In n ks
in_of_test n [] e = absurd (false≢true e)
in_of_test n (k ∷ ks) e = from_test n k ks (n == k) refl (in_of_test n ks) e
