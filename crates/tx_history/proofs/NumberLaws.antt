-- Numbers under tables: one more, and other ones.
use Rattle.std.specs.List.{position}
use Rattle.std.specs.Option.{option_map_or}
use Rattle.std.specs.Prelude.{is_some, OnErr, OnOk}
use Rattle.std.proofs.Common.{◌≡◌, if◌then◌else◌, ℕ, zero, suc, ◌<◌, ◌≤◌, max, length, get_or, arith, ◌==◌, List, [], ◌∷◌, ◌++◌, Bool, true, false, Option, Some, None, Result, Ok, Err, inl, inr, slice_index_or, slice_set, refl, sym, ap, subst, ◌∙◌}
use Rattle.std.proofs.lemmas.Bool.{eq-eqb, eqb-true, false≢true}
use Rattle.version_graph.specs.Sets.{In, Within}
use Rattle.op_law.proofs.OnlyLaws.{by_test}
use Rattle.session_tx.specs.Calls.{last_number, next_number}
use Rattle.version_model.specs.Kept.{numbers_in, value_of}
use Rattle.version_model.specs.declared.numbered.Numbered.{Numbered}
use Rattle.version_model.proofs.NumberedLaws.{looked, replaced, unplaced, value_here, value_of_first}
use Rattle.tx_history.specs.History.{number_in}

looked_none : (b : Bool) (x : Numbered ℕ) → x.value ≡ 0 → option_map_or (λ (n : ℕ). n) (looked b x None) 0 ≡ 0
looked_none true x is = is
looked_none false x is = refl

looked_more : (b : Bool) (x : Numbered ℕ) (o p : Option ℕ) → option_map_or (λ (n : ℕ). n) o 0 ≡ option_map_or (λ (n : ℕ). n) p 0 → option_map_or (λ (n : ℕ). n) (looked b x o) 0 ≡ option_map_or (λ (n : ℕ). n) (looked b x p) 0
looked_more true x o p same = refl
looked_more false x o p same = same

-- a 0 behind the others says as much as none
pub number_more : (items : List (Numbered ℕ)) (x : Numbered ℕ) → x.value ≡ 0 → (t : ℕ) → number_in (items ++ x ∷ []) t ≡ number_in items t
number_more [] x is t = ap (λ (o : Option ℕ). option_map_or (λ (n : ℕ). n) o 0) (value_of_first x [] t) ∙ looked_none (t == x.number) x is
number_more (y ∷ ys) x is t =
    ap (λ (o : Option ℕ). option_map_or (λ (n : ℕ). n) o 0) (value_of_first y (ys ++ x ∷ []) t)
    ∙ looked_more (t == y.number) y (value_of (ys ++ x ∷ []) t) (value_of ys t) (number_more ys x is t)
    ∙ sym (ap (λ (o : Option ℕ). option_map_or (λ (n : ℕ). n) o 0) (value_of_first y ys t))

pub within_more : (items : List (Numbered ℕ)) (x : Numbered ℕ) → Within (numbers_in items) (numbers_in (items ++ x ∷ []))
within_more [] x n i = absurd i
within_more (y ∷ ys) x n (inl e) = inl e
within_more (y ∷ ys) x n (inr i) = inr (within_more ys x n i)

pub in_more : (items : List (Numbered ℕ)) (x : Numbered ℕ) → In x.number (numbers_in (items ++ x ∷ []))
in_more [] x = inl refl
in_more (y ∷ ys) x = inr (in_more ys x)

-- ---- what has a place

pub value_in : (items : List (Numbered ℕ)) (k v : ℕ) → value_of items k ≡ Some v → In k (numbers_in items)
value_in [] k v h = absurd (cc)
value_in (x ∷ xs) k v h =
    by_test (k == x.number)
    (λ e. inl (eqb-true k x.number e))
    (λ e. inr (value_in xs k v (sym (value_of_first x xs k ∙ ap (λ (b : Bool). looked b x (value_of xs k)) e) ∙ h)))

pub place_in : (items : List (Numbered ℕ)) (k : ℕ) (o : Option ℕ) → o ≡ position (λ (i : Numbered ℕ). k == i.number) items → is_some o ≡ true → In k (numbers_in items)
place_in items k None found some = absurd (false≢true some)
place_in items k (Some at) found some =
    let d : Numbered ℕ = record { number = 0; value = 0 } in
    value_in items k (slice_index_or items at d).value (value_here items k at d (sym found))

not_none : (x : Numbered ℕ) (xs : List (Numbered ℕ)) (k : ℕ) → (k == x.number) ≡ true → value_of (x ∷ xs) k ≡ None → ⊥
not_none x xs k e h = let some : Some x.value ≡ None = sym (value_of_first x xs k ∙ ap (λ (b : Bool). looked b x (value_of xs k)) e) ∙ h in absurd (cc)

in_value : (items : List (Numbered ℕ)) (k : ℕ) → In k (numbers_in items) → value_of items k ≡ None → ⊥
in_value [] k i h = i
in_value (x ∷ xs) k (inl e) h = not_none x xs k (eq-eqb k x.number e) h
in_value (x ∷ xs) k (inr i) h =
    by_test (k == x.number)
    (λ e. not_none x xs k e h)
    (λ e. in_value xs k i (sym (value_of_first x xs k ∙ ap (λ (b : Bool). looked b x (value_of xs k)) e) ∙ h))

-- what has a number has a place
pub no_place : (items : List (Numbered ℕ)) (k : ℕ) → In k (numbers_in items) → position (λ (i : Numbered ℕ). k == i.number) items ≡ None → ⊥
no_place items k i found = in_value items k i (unplaced items k found)

-- ---- another number

number_if : (b : Bool) (v : ℕ) (o : Option ℕ) → option_map_or (λ (n : ℕ). n) (if b then Some v else o) 0 ≡ (if b then v else option_map_or (λ (n : ℕ). n) o 0)
number_if true v o = refl
number_if false v o = refl

pub number_put : (items : List (Numbered ℕ)) (k at v : ℕ) (d : Numbered ℕ) → position (λ (i : Numbered ℕ). k == i.number) items ≡ Some at → (t : ℕ) → number_in (slice_set items at (record { number = (slice_index_or items at d).number; value = v })) t ≡ (if t == k then v else number_in items t)
number_put items k at v d found t = ap (λ (o : Option ℕ). option_map_or (λ (n : ℕ). n) o 0) (replaced items k at v d found t) ∙ number_if (t == k) v (value_of items t)

-- ---- lists of tables

pub within_end : (xs : List ℕ) (y : ℕ) (zs : List ℕ) → Within xs zs → In y zs → Within (xs ++ y ∷ []) zs
within_end [] y zs all one x (inl e) = subst (λ (n : ℕ). In n zs) (sym e) one
within_end [] y zs all one x (inr i) = absurd i
within_end (z ∷ xs) y zs all one x (inl e) = all x (inl e)
within_end (z ∷ xs) y zs all one x (inr i) = within_end xs y zs (λ w j. all w (inr j)) one x i

pub on_push : {E P A B : Type 0} (r : Result (Unit {0}) E) → OnOk r A → OnErr r B → (A → P) → (B → P) → P
on_push (Ok x) a b f g = f a
on_push (Err e) a b f g = g b

pub ok_push : {E P A : Type 0} (r : Result (Unit {0}) E) → OnOk r A → (A → P) → OnOk r P
ok_push (Ok x) a f = f a
ok_push (Err e) a f = tt

-- an item stands in its list
pub in_item : {X : Type 0} (xs : List X) (i : ℕ) (d : X) → i < length xs → In (get_or xs i d) xs
in_item [] i d lt = absurd (omega (arith, lt))
in_item (x ∷ xs) zero d lt = inl refl
in_item (x ∷ xs) (suc i) d lt = inr (in_item xs i d (omega (arith, lt)))

-- ---- the next number

pub not_less : (n : ℕ) → n ≤ last_number → n ≤ next_number n
not_less n h = omega (arith, h)

pub at_most : (n : ℕ) → next_number n ≤ last_number
at_most n = omega arith

pub greater : (a b : ℕ) → b ≤ a → max a b ≡ a
greater a b h = omega (arith, h)
