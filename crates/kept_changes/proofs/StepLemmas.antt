-- Changes taken from the end of a list, one number after the other.
use Rattle.std.specs.Option.{option_map_or}
use Rattle.std.proofs.Common.{◌≡◌, if◌then◌else◌, ℕ, ◌==◌, List, [], ◌∷◌, ◌++◌, Bool, true, false, Option, Some, None, inl, inr, refl, ap, sym, ◌∙◌, subst, arith, length}
use Rattle.std.proofs.lemmas.Bool.{eqb-true, ne_eqb}
use Rattle.version_graph.specs.Sets.{Distinct, Each, In}
use Rattle.op_law.proofs.OnlyLaws.{by_test}
use Rattle.version_model.specs.Kept.{value_of, numbers_in}
use Rattle.version_model.specs.declared.numbered.Numbered.{Numbered}
use Rattle.version_model.proofs.NumberedLaws.{looked, value_of_first}
use Rattle.kept_changes.proofs.ChangesLaws.{value_unlisted}

pub none_left : {A : Type 0} (xs : List A) → length xs ≡ 0 → xs ≡ []
none_left [] e = refl
none_left (x ∷ xs) e = absurd (omega (arith, e))

module _ {C : Type 0} where
  -- what holds of each holds of the last one and of those before it
  pub each_split : (P : Numbered C → Type 0) (xs : List (Numbered C)) (c : Numbered C) → Each P (xs ++ c ∷ []) → Each P xs × P c
  each_split P [] c h = (tt, h.0)
  each_split P (x ∷ xs) c h = let more = each_split P xs c h.1 in ((h.0, more.0), more.1)

  in_before : (n : ℕ) (xs : List (Numbered C)) (c : Numbered C) → In n (numbers_in xs) → In n (numbers_in (xs ++ c ∷ []))
  in_before n [] c i = absurd i
  in_before n (x ∷ xs) c (inl e) = inl e
  in_before n (x ∷ xs) c (inr i) = inr (in_before n xs c i)

  in_last : (xs : List (Numbered C)) (c : Numbered C) → In c.number (numbers_in (xs ++ c ∷ []))
  in_last [] c = inl refl
  in_last (x ∷ xs) c = inr (in_last xs c)

  -- where numbers differ, the last one isn't among those before it
  pub last_apart : (xs : List (Numbered C)) (c : Numbered C) → Distinct (numbers_in (xs ++ c ∷ [])) → In c.number (numbers_in xs) → ⊥
  last_apart [] c h i = i
  last_apart (x ∷ xs) c h (inl e) = h.0 (subst (λ (n : ℕ). In n (numbers_in (xs ++ c ∷ []))) e (in_last xs c))
  last_apart (x ∷ xs) c h (inr i) = last_apart xs c h.1 i

  pub distinct_before : (xs : List (Numbered C)) (c : Numbered C) → Distinct (numbers_in (xs ++ c ∷ [])) → Distinct (numbers_in xs)
  distinct_before [] c h = tt
  distinct_before (x ∷ xs) c h = ((λ i. h.0 (in_before x.number xs c i)), distinct_before xs c h.1)

  -- what holds of those with other numbers
  pub each_other : (P Q : Numbered C → Type 0) (k : ℕ) → ((i : Numbered C) → (i.number == k) ≡ false → P i → Q i) → (xs : List (Numbered C)) → (In k (numbers_in xs) → ⊥) → Each P xs → Each Q xs
  each_other P Q k keep [] out h = tt
  each_other P Q k keep (x ∷ xs) out h = (keep x (ne_eqb x.number k (λ same. out (inl (sym same)))) h.0, each_other P Q k keep xs (λ i. out (inr i)) h.1)

  -- the last item's value, or that of those before it
  alone : (c : Numbered C) (b : Bool) → looked b c None ≡ (if b then Some c.value else None)
  alone c true = refl
  alone c false = refl

  turned : (x c : Numbered C) (a b : Bool) (o : Option C) → (a ≡ true → b ≡ false) → looked a x (if b then Some c.value else o) ≡ (if b then Some c.value else looked a x o)
  turned x c true true o apart = let e = apart refl in absurd (let no : ⊥ = cc in no)
  turned x c true false o apart = refl
  turned x c false true o apart = refl
  turned x c false false o apart = refl

  pub value_behind : (xs : List (Numbered C)) (c : Numbered C) (n : ℕ) → (In c.number (numbers_in xs) → ⊥) → value_of (xs ++ c ∷ []) n ≡ (if n == c.number then Some c.value else value_of xs n)
  value_behind [] c n out = value_of_first c [] n ∙ alone c (n == c.number)
  value_behind (x ∷ xs) c n out =
      let apart : (n == x.number) ≡ true → (n == c.number) ≡ false = λ e. ne_eqb n c.number (λ same. out (inl (sym same ∙ eqb-true n x.number e))) in
      value_of_first x (xs ++ c ∷ []) n ∙ ap (λ (o : Option C). looked (n == x.number) x o) (value_behind xs c n (λ i. out (inr i)))
      ∙ turned x c (n == x.number) (n == c.number) (value_of xs n) apart
      ∙ ap (λ (o : Option C). if n == c.number then Some c.value else o) (sym (value_of_first x xs n))

module _ {C V W : Type 0} (f : C → W) (z : W) (make : V → W → V) (keeps : (v : V) → make v z ≡ v) where
  told_case : (b : Bool) (v : C) (o : Option C) → option_map_or f (if b then Some v else o) z ≡ (if b then f v else option_map_or f o z)
  told_case true v o = refl
  told_case false v o = refl

  -- changing by the last item first, and then by those before it, is changing by all
  pub step : (before after : ℕ → V) (xs : List (Numbered C)) (c : Numbered C) → (In c.number (numbers_in xs) → ⊥) → ((n : ℕ) → after n ≡ (if n == c.number then make (before n) (f c.value) else before n))
      → (n : ℕ) → make (after n) (option_map_or f (value_of xs n) z) ≡ make (before n) (option_map_or f (value_of (xs ++ c ∷ []) n) z)
  step before after xs c out is n =
      let all : option_map_or f (value_of (xs ++ c ∷ []) n) z ≡ (if n == c.number then f c.value else option_map_or f (value_of xs n) z) =
      ap (λ (o : Option C). option_map_or f o z) (value_behind xs c n out) ∙ told_case (n == c.number) c.value (value_of xs n) in
      by_test (n == c.number)
      (λ e.
      let here : after n ≡ make (before n) (f c.value) = is n ∙ ap (λ (b : Bool). if b then make (before n) (f c.value) else before n) e in
      let none : option_map_or f (value_of xs n) z ≡ z = ap (λ (o : Option C). option_map_or f o z) (value_unlisted xs n (λ i. out (subst (λ (k : ℕ). In k (numbers_in xs)) (eqb-true n c.number e) i))) in
      let last : option_map_or f (value_of (xs ++ c ∷ []) n) z ≡ f c.value = all ∙ ap (λ (b : Bool). if b then f c.value else option_map_or f (value_of xs n) z) e in
      ap (λ (w : W). make (after n) w) none ∙ keeps (after n) ∙ here ∙ ap (λ (w : W). make (before n) w) (sym last))
      (λ e.
      let here : after n ≡ before n = is n ∙ ap (λ (b : Bool). if b then make (before n) (f c.value) else before n) e in
      let rest : option_map_or f (value_of (xs ++ c ∷ []) n) z ≡ option_map_or f (value_of xs n) z = all ∙ ap (λ (b : Bool). if b then f c.value else option_map_or f (value_of xs n) z) e in
      ap (λ (v : V). make v (option_map_or f (value_of xs n) z)) here ∙ ap (λ (w : W). make (before n) w) (sym rest))
