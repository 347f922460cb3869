-- Lists as sets, and their lengths.
use Rattle.std.specs.Prelude.{◌<◌}
use Rattle.std.proofs.Common.{◌≡◌, ℕ, ◌+◌, ◌≤◌, List, [], ◌∷◌, ◌++◌, Bool, true, false, cond, filter, length, get_or, suc, zero, inl, inr, refl, sym, ap, ◌∙◌, subst, arith}
use Rattle.std.proofs.lemmas.Bool.{cond-true}
use Rattle.version_graph.specs.Sets.{In, Distinct, Within}
use Rattle.version_graph.specs.Edges.{Rises}

-- ---- no more items than there are

record Cut {X : Type 0} (x : X) (ys : List X) : Type 0 where
  front : List X
  back : List X
  is : ys ≡ front ++ x ∷ back

cut : {X : Type 0} (x : X) (ys : List X) → In x ys → Cut x ys
cut x [] i = absurd i
cut x (y ∷ ys) (inl same) = record { front = []; back = ys; is = ap (λ z. z ∷ ys) (sym same) }
cut x (y ∷ ys) (inr i) = let c = cut x ys i in record { front = y ∷ c.front; back = c.back; is = ap (λ l. y ∷ l) c.is }

-- what isn't this one is in the rest
skip : {X : Type 0} (v x : X) (front back : List X) → (v ≡ x → ⊥) → In v (front ++ x ∷ back) → In v (front ++ back)
skip v x [] back other (inl same) = absurd (other same)
skip v x [] back other (inr i) = i
skip v x (y ∷ front) back other (inl same) = inl same
skip v x (y ∷ front) back other (inr i) = inr (skip v x front back other i)

one_longer : {X : Type 0} (x : X) (front back : List X) → length (front ++ x ∷ back) ≡ length (front ++ back) + 1
one_longer x [] back = omega arith
one_longer x (y ∷ front) back = let rest = one_longer x front back in omega (arith, rest)

pub no_more : {X : Type 0} (xs ys : List X) → Distinct xs → Within xs ys → length xs ≤ length ys
no_more [] ys once within = omega arith
no_more {X} (x ∷ xs) ys once within =
    let c = cut x ys (within x (inl refl)) in
    let rest : length xs ≤ length (c.front ++ c.back) =
    no_more xs (c.front ++ c.back) once.1
    (λ v i. skip v x c.front c.back (λ same. once.0 (there v same i)) (here v c.front c.back (within v (inr i)) c.is)) in
    let many = one_longer x c.front c.back in
    let all = ap length c.is in
    omega (arith, rest, many, all)
  where
    there : (v : X) → v ≡ x → In v xs → In x xs
    there v same i = rw (sym same) i

    here : (v : X) (front back : List X) → In v ys → ys ≡ front ++ x ∷ back → In v (front ++ x ∷ back)
    here v front back i is = rw (sym is) i

-- ---- filters

-- tests that agree on the items of a list choose the same ones
pub filter_same : {X : Type 0} (p q : X → Bool) (xs : List X) → ((x : X) → In x xs → p x ≡ q x) → filter p xs ≡ filter q xs
filter_same p q [] same = refl
filter_same {X} p q (x ∷ xs) same =
    let rest = filter_same p q xs (λ y i. same y (inr i)) in
    ap (λ (b : Bool). cond b (x ∷ filter p xs) (filter p xs)) (same x (inl refl)) ∙ ap (λ (l : List X). cond (q x) (x ∷ l) l) rest

-- what passes is chosen
pub chosen_in : {X : Type 0} (test : X → Bool) (x : X) (xs : List X) → In x xs → test x ≡ true → In x (filter test xs)
chosen_in test x [] i is = i
chosen_in {X} test x (y ∷ ys) (inl same) is = subst (λ (l : List X). In x l) (sym (cond-true (test y) (y ∷ filter test ys) (filter test ys) (ap test (sym same) ∙ is))) (inl same)
chosen_in test x (y ∷ ys) (inr i) is = elim (test y) as (λ b. In x (cond b (y ∷ filter test ys) (filter test ys))) [ true ↦ inr (chosen_in test x ys i is) | false ↦ chosen_in test x ys i is ]

pub some_in : {X : Type 0} (x : X) (xs : List X) → In x xs → 0 < length xs
some_in x [] i = absurd i
some_in x (y ∷ ys) i = omega arith

-- ---- ascending numbers

-- an item of ascending numbers is above its place
above_place : (n : ℕ) (xs : List ℕ) → Rises n xs → (i : ℕ) → i < length xs → n + i < get_or xs i 0
above_place n [] rise i within = omega arith
above_place n (x ∷ xs) rise zero within = let less = rise.0 in omega arith
above_place n (x ∷ xs) rise (suc i) within =
    let inside : i < length xs = omega arith in
    let rest = above_place x xs rise.1 i inside in
    let less = rise.0 in
    omega (arith, rest, less)

pub place_below : (xs : List ℕ) (i x : ℕ) → Rises 0 xs → i < length xs → x ≡ get_or xs i 0 → i < x
place_below xs i x rise within is = let above = above_place 0 xs rise i within in omega (arith, above, is)
