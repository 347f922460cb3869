-- Items at places, the first items of a list, and the others.
use Rattle.std.proofs.Common.{◌≡◌, ℕ, zero, suc, ◌<◌, ◌≤◌, List, [], ◌∷◌, ◌++◌, length, take, drop, get_or, Some, slice_get, slice_set, refl, sym, ◌∙◌, ap, arith}

-- the item at a place, where another way tells that there is one, and where the place is inside
pub get_same : {A : Type 0} (ts : List A) (i : ℕ) (w x : A) → slice_get ts i ≡ Some w → x ≡ get_or ts i x → slice_get ts i ≡ Some x
get_same [] i w x e same = cc
get_same (t ∷ ts) zero w x e same = ap Some (sym same)
get_same (t ∷ ts) (suc i) w x e same = get_same ts i w x e same

pub get_there : {A : Type 0} (ts : List A) (i : ℕ) (x : A) → i < length ts → x ≡ get_or ts i x → slice_get ts i ≡ Some x
get_there [] i x h e = absurd (omega arith)
get_there (t ∷ ts) zero x h e = ap Some (sym e)
get_there (t ∷ ts) (suc i) x h e = get_there ts i x (omega arith) e

pub set_length : {A : Type 0} (ts : List A) (at : ℕ) (y : A) → length (slice_set ts at y) ≡ length ts
set_length [] at y = refl
set_length (t ∷ ts) zero y = refl
set_length (t ∷ ts) (suc at) y = ap suc (set_length ts at y)

-- all of a list, and nothing of it
pub all_taken : {A : Type 0} (ts : List A) (n : ℕ) → length ts ≤ n → take n ts ≡ ts
all_taken [] zero h = refl
all_taken [] (suc n) h = refl
all_taken (t ∷ ts) zero h = absurd (omega arith)
all_taken (t ∷ ts) (suc n) h = ap (λ us. t ∷ us) (all_taken ts n (omega arith))

pub none_left : {A : Type 0} (xs : List A) (i : ℕ) → length xs ≤ i → drop i xs ≡ []
none_left [] zero h = refl
none_left [] (suc i) h = refl
none_left (x ∷ xs) zero h = absurd (omega arith)
none_left (x ∷ xs) (suc i) h = none_left xs i (omega arith)

pub take_one : {A : Type 0} (xs : List A) (i : ℕ) (x : A) → slice_get xs i ≡ Some x → take (suc i) xs ≡ take i xs ++ x ∷ []
take_one [] i x e = cc
take_one (y ∷ ys) zero x e = let a : y ≡ x = cc in ap (λ z. z ∷ []) a
take_one (y ∷ ys) (suc i) x e = ap (λ zs. y ∷ zs) (take_one ys i x e)

pub split_at : {A : Type 0} (xs : List A) (i : ℕ) (x : A) → slice_get xs i ≡ Some x → xs ≡ take i xs ++ (x ∷ drop (suc i) xs)
split_at [] i x e = cc
split_at (y ∷ ys) zero x e = let a : y ≡ x = cc in ap (λ z. z ∷ ys) a
split_at (y ∷ ys) (suc i) x e = ap (λ zs. y ∷ zs) (split_at ys i x e)

-- what is left of a list that was changed before a place is as it was
pub left_get : {A : Type 0} (now all : List A) (i : ℕ) → drop i now ≡ drop i all → slice_get now i ≡ slice_get all i
left_get now all i e = sym (at now i) ∙ ap (λ zs. slice_get zs 0) e ∙ at all i
  where
    at : {A : Type 0} (xs : List A) (i : ℕ) → slice_get (drop i xs) 0 ≡ slice_get xs i
    at xs zero = refl
    at [] (suc i) = refl
    at (x ∷ xs) (suc i) = at xs i

pub left_next : {A : Type 0} (now all : List A) (i : ℕ) (y : A) → drop i now ≡ drop i all → drop (suc i) (slice_set now i y) ≡ drop (suc i) all
left_next now all i y e = set_rest now i y ∙ sym (one_more now i) ∙ ap (λ zs. drop 1 zs) e ∙ one_more all i
  where
    set_rest : {A : Type 0} (xs : List A) (i : ℕ) (y : A) → drop (suc i) (slice_set xs i y) ≡ drop (suc i) xs
    set_rest [] i y = refl
    set_rest (x ∷ xs) zero y = refl
    set_rest (x ∷ xs) (suc i) y = set_rest xs i y

    one_more : {A : Type 0} (xs : List A) (i : ℕ) → drop 1 (drop i xs) ≡ drop (suc i) xs
    one_more xs zero = refl
    one_more [] (suc i) = refl
    one_more (x ∷ xs) (suc i) = one_more xs i
