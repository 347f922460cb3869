-- Whether an item of a list passes a test, and whether each does.
use Rattle.std.specs.List.{list_any}
use Rattle.std.proofs.Common.{◌≡◌, if◌then◌else◌, ℕ, ◌==◌, ◌||◌, Bool, true, false, not, List, [], ◌∷◌, ◌++◌, length, refl, sym, ap, subst, ◌∙◌, arith}
use Rattle.std.proofs.lemmas.Bool.{eq-eqb, false≢true}
use Rattle.std.proofs.lemmas.List.{reverse-append}
use mathlib.Core.List.{reverse}
use Rattle.version_graph.specs.Edges.{is_in}
use Rattle.version_graph.specs.Sets.{Each}

pub either_turned : (a b : Bool) → a || b ≡ b || a
either_turned true true = refl
either_turned true false = refl
either_turned false true = refl
either_turned false false = refl

pub either_last : (a b c : Bool) → (a || b) || c ≡ a || (b || c)
either_last true b c = refl
either_last false b c = refl

pub none_right : (a : Bool) → a || false ≡ a
none_right true = refl
none_right false = refl

module _ {X : Type 0} (test : X → Bool) where
  pub any_append : (xs ys : List X) → list_any test (xs ++ ys) ≡ list_any test xs || list_any test ys
  any_append [] ys = refl
  any_append (x ∷ xs) ys = ap (λ (b : Bool). test x || b) (any_append xs ys) ∙ sym (either_last (test x) (list_any test xs) (list_any test ys))

  pub any_reverse : (xs : List X) → list_any test (reverse xs) ≡ list_any test xs
  any_reverse [] = refl
  any_reverse (x ∷ xs) =
      ap (λ (l : List X). list_any test l) (reverse-append (x ∷ []) xs)
      ∙ any_append (reverse xs) (x ∷ [])
      ∙ ap (λ (b : Bool). list_any test (reverse xs) || b) (none_right (test x))
      ∙ ap (λ (b : Bool). b || test x) (any_reverse xs)
      ∙ either_turned (list_any test xs) (test x)

  -- one more item behind the others
  pub any_more : (xs : List X) (x : X) → list_any test (xs ++ x ∷ []) ≡ list_any test xs || test x
  any_more xs x = any_append xs (x ∷ []) ∙ ap (λ (b : Bool). list_any test xs || b) (none_right (test x))

-- a choice upon a choice of the same
pub chosen_twice : {X : Type 0} (a b : Bool) (x y : X) → (if b then x else (if a then x else y)) ≡ (if a || b then x else y)
chosen_twice true true x y = refl
chosen_twice true false x y = refl
chosen_twice false true x y = refl
chosen_twice false false x y = refl

pub is_false : (b : Bool) → (b ≡ true → ⊥) → b ≡ false
is_false true h = absurd (h refl)
is_false false h = refl

-- ---- whether a number stands in a list

pub some_there : (t : ℕ) (ts : List ℕ) → is_in t ts ≡ true → not (length ts == 0) ≡ true
some_there t [] h = absurd (false≢true h)
some_there t (x ∷ xs) h = grind arith

pub first_in : (ts : List ℕ) → not (length ts == 0) ≡ true → (t : ℕ) × (is_in t ts ≡ true)
first_in [] h = absurd (false≢true h)
first_in (t ∷ ts) h = (t, ap (λ (b : Bool). b || is_in t ts) (eq-eqb t t refl))

-- ---- each item

module _ {X : Type 0} (P : X → Type 0) where
  each_left : (xs ys : List X) → Each P (xs ++ ys) → Each P xs
  each_left [] ys h = tt
  each_left (x ∷ xs) ys h = (h.0, each_left xs ys h.1)

  each_right : (xs ys : List X) → Each P (xs ++ ys) → Each P ys
  each_right [] ys h = h
  each_right (x ∷ xs) ys h = each_right xs ys h.1

  pub each_turned : (xs : List X) → Each P (reverse xs) → Each P xs
  each_turned [] h = tt
  each_turned (x ∷ xs) h =
      let both = subst (λ (l : List X). Each P l) (reverse-append (x ∷ []) xs) h in
      ((each_right (reverse xs) (x ∷ []) both).0, each_turned xs (each_left (reverse xs) (x ∷ []) both))
