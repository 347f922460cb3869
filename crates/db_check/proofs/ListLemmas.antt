-- Lists of numbers and of values under numbers.
use Rattle.std.specs.Prelude.{◌==◌, slice_get}
use Rattle.std.specs.List.{list_all}
use Rattle.std.specs.Option.{option_map_or, option_to_list}
use Rattle.std.proofs.Common.{◌≡◌, ℕ, zero, suc, ◌+◌, List, [], ◌∷◌, ◌++◌, Bool, take, Option, Some, None, inl, inr, refl, sym, ap, ◌∙◌, subst, arith}
use Rattle.std.proofs.lemmas.Bool.{and_from, and_parts, cases_eq, eq-eqb, ne_eqb}
use Rattle.version_graph.specs.Sets.{In}
use Rattle.version_graph.specs.Edges.{Rises}
use Rattle.version_graph.proofs.TableLaws.{rises_above}
use Rattle.version_model.specs.Kept.{value_of, numbers_in}
use Rattle.version_model.specs.declared.numbered.Numbered.{Numbered}
use Rattle.version_model.proofs.NumberedLaws.{looked, value_of_first}
use Rattle.db_check.specs.inner.Tests.{Tells}

-- one item more of a list
pub take_next : {X : Type 0} (xs : List X) (i : ℕ) (o : Option X) → o ≡ slice_get xs i → take (i + 1) xs ≡ take i xs ++ option_to_list o
take_next {X} [] i o is =
    take_none (i + 1) ∙ sym (ap (λ (l : List X). l ++ option_to_list o) (take_none i) ∙ ap (λ (m : Option X). [] ++ option_to_list m) (is ∙ none_there i))
  where
    none_there : (k : ℕ) → slice_get {X = X} [] k ≡ None
    none_there zero = refl
    none_there (suc k) = refl

    take_none : (k : ℕ) → take {A = X} k [] ≡ []
    take_none zero = refl
    take_none (suc k) = refl
take_next {X} (x ∷ xs) zero o is = subst (λ (m : Option X). take (0 + 1) (x ∷ xs) ≡ take 0 (x ∷ xs) ++ option_to_list m) (sym is) refl
take_next {X} (x ∷ xs) (suc i) o is =
    let more : suc i + 1 ≡ suc (i + 1) = omega arith in
    subst (λ (k : ℕ). take k (x ∷ xs) ≡ take (suc i) (x ∷ xs) ++ option_to_list o) (sym more) (ap (λ (l : List X). x ∷ l) (take_next xs i o is))

-- a value stands under its own number, where numbers rise
pub own_value : {T : Type 0} (n : ℕ) (items : List (Numbered T)) → Rises n (numbers_in items) → (x : Numbered T) → In x items → value_of items x.number ≡ Some x.value
own_value n [] r x i = absurd i
own_value {T} n (y ∷ ys) r x (inl same) =
    subst (λ (z : Numbered T). value_of (y ∷ ys) z.number ≡ Some z.value) (sym same) (value_of_first y ys y.number ∙ ap (λ (b : Bool). looked b y (value_of ys y.number)) (eq-eqb y.number y.number refl))
own_value {T} n (y ∷ ys) r x (inr i) =
    let more = rises_above y.number (numbers_in ys) r.1 x.number (number_in ys x i) in
    value_of_first y ys x.number ∙ ap (λ (b : Bool). looked b y (value_of ys x.number)) (ne_eqb x.number y.number (λ same. omega (arith, more, same))) ∙ own_value y.number ys r.1 x i
  where
    number_in : (zs : List (Numbered T)) (z : Numbered T) → In z zs → In z.number (numbers_in zs)
    number_in [] z j = absurd j
    number_in (w ∷ zs) z (inl same) = inl (ap (λ (v : Numbered T). v.number) same)
    number_in (w ∷ zs) z (inr j) = inr (number_in zs z j)

-- what is true of each item and of what isn't there is true of what is found
pub found_has : {T A : Type 0} (f : T → A) (d : A) (P : ℕ → A → Type 0) → ((n : ℕ) → P n d) → (items : List (Numbered T)) → ((x : Numbered T) → In x items → P x.number (f x.value)) → (n : ℕ) → P n (option_map_or f (value_of items n) d)
found_has f d P none [] each n = none n
found_has {T} {A} f d P none (x ∷ xs) each n =
    let rest = found_has f d P none xs (λ y i. each y (inr i)) n in
    subst (λ (o : Option T). P n (option_map_or f o d)) (sym (value_of_first x xs n))
    (elim (cases_eq n x.number) as (λ _. P n (option_map_or f (looked (n == x.number) x (value_of xs n)) d)) [
      | inl same ↦ subst (λ (b : Bool). P n (option_map_or f (looked b x (value_of xs n)) d)) (sym (eq-eqb n x.number same)) (subst (λ (k : ℕ). P k (f x.value)) (sym same) (each x (inl refl)))
      | inr other ↦ subst (λ (b : Bool). P n (option_map_or f (looked b x (value_of xs n)) d)) (sym (ne_eqb n x.number other)) rest
    ])

-- a test of all items tells of each
pub all_tell : {X : Type 0} (test : X → Bool) (P : X → Type 0) → ((x : X) → Tells (test x) (P x)) → (xs : List X) → Tells (list_all test xs) ((x : X) → In x xs → P x)
all_tell test P tells [] = ((λ h x i. absurd i), (λ h. refl))
all_tell {X} test P tells (y ∷ ys) =
    let rest = all_tell test P tells ys in (
      (λ h x i. let two = and_parts (test y) (list_all test ys) h in elim i as (λ _. P x) [ inl same ↦ subst P (sym same) ((tells y).0 two.0) | inr j ↦ rest.0 two.1 x j ]),
      (λ h. and_from (test y) (list_all test ys) ((tells y).1 (h y (inl refl))) (rest.1 (λ x j. h x (inr j)))),
    )

-- lists that are the same have the same numbers
pub tells_for : {T : Type 0} (xs items : List (Numbered T)) (ns ks : List ℕ) (b : Bool) → xs ≡ items → ns ≡ ks → Tells b (numbers_in xs ≡ ns) → Tells b (numbers_in items ≡ ks)
tells_for {T} xs items ns ks b same equal t = subst (λ (l : List (Numbered T)). Tells b (numbers_in l ≡ ks)) same (subst (λ (l : List ℕ). Tells b (numbers_in xs ≡ l)) equal t)
