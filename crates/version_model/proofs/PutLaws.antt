-- Functions with other values at some numbers.
use Rattle.std.proofs.Common.{◌≡◌, ℕ, List, [], ◌∷◌, Bool, true, false, cond, inl, inr, refl, sym, ◌∙◌, subst, map}
use Rattle.std.specs.Prelude.{◌==◌}
use Rattle.std.proofs.lemmas.Bool.{eq-eqb, eqb-true, ne_eqb, cond-true, cond-false}
use Rattle.version_graph.specs.Sets.{In, Apart, Distinct}
use Rattle.version_model.specs.Put.{put}

-- as many values as numbers
abbrev pub AsMany : {A : Type 0} → List ℕ → List A → Type 0
AsMany [] [] = Unit {0}
AsMany (k ∷ ks) (v ∷ vs) = AsMany ks vs
AsMany [] (v ∷ vs) = ⊥
AsMany (k ∷ ks) [] = ⊥

-- what is true of each new value at its number
abbrev pub EachAt : {A : Type 0} → (ℕ → A → Type 0) → List ℕ → List A → Type 0
EachAt P [] vs = Unit {0}
EachAt P (k ∷ ks) [] = Unit {0}
EachAt P (k ∷ ks) (v ∷ vs) = P k v × EachAt P ks vs

module _ {A : Type 0} where
  -- another number keeps its value
  pub put_other : (f : ℕ → A) (ks : List ℕ) (vs : List A) (n : ℕ) → (In n ks → ⊥) → put f ks vs n ≡ f n
  put_other f [] vs n h = refl
  put_other f (k ∷ ks) [] n h = refl
  put_other f (k ∷ ks) (v ∷ vs) n h =
      cond-false (n == k) v (put f ks vs n) (ne_eqb n k (λ e. h (inl e))) ∙ put_other f ks vs n (λ i. h (inr i))

  -- functions that are the same at each number of a list
  pub map_same : (f g : ℕ → A) (ks : List ℕ) → ((n : ℕ) → In n ks → f n ≡ g n) → map f ks ≡ map g ks
  map_same f g [] h = refl
  map_same f g (k ∷ ks) h =
      let one = h k (inl refl) in
      let rest = map_same f g ks (λ n i. h n (inr i)) in
      cc

  -- no new value stands in the list
  pub put_apart : (f : ℕ → A) (ks : List ℕ) (vs : List A) (ns : List ℕ) → Apart ns ks → map (put f ks vs) ns ≡ map f ns
  put_apart f ks vs ns h = map_same (put f ks vs) f ns (λ n i. put_other f ks vs n (h n i))

  -- the new values are read back
  pub put_here : (f : ℕ → A) (ks : List ℕ) (vs : List A) → Distinct ks → AsMany ks vs → map (put f ks vs) ks ≡ vs
  put_here f [] [] d m = refl
  put_here f [] (v ∷ vs) d m = absurd m
  put_here f (k ∷ ks) [] d m = absurd m
  put_here f (k ∷ ks) (v ∷ vs) d m =
      let first : put f (k ∷ ks) (v ∷ vs) k ≡ v = cond-true (k == k) v (put f ks vs k) (eq-eqb k k refl) in
      let later = map_same (put f (k ∷ ks) (v ∷ vs)) (put f ks vs) ks (λ n i. cond-false (n == k) v (put f ks vs n) (ne_eqb n k (λ e. d.0 (subst (λ (x : ℕ). In x ks) e i)))) in
      let rest = put_here f ks vs d.1 m in
      cc

  put_test : (P : ℕ → A → Type 0) (n k : ℕ) (v w : A) (b : Bool) → (n == k) ≡ b → P k v → P n w → P n (cond b v w)
  put_test P n k v w true e h i = subst (λ (x : ℕ). P x v) (sym (eqb-true n k e)) h
  put_test P n k v w false e h i = i

  -- what is true of each new value and of the function is true of the new function
  pub put_holds : (P : ℕ → A → Type 0) (f : ℕ → A) (ks : List ℕ) (vs : List A) → EachAt P ks vs → ((n : ℕ) → P n (f n)) → (n : ℕ) → P n (put f ks vs n)
  put_holds P f [] vs h i n = i n
  put_holds P f (k ∷ ks) [] h i n = i n
  put_holds P f (k ∷ ks) (v ∷ vs) h i n = put_test P n k v (put f ks vs n) (n == k) refl h.0 (put_holds P f ks vs h.1 i n)

  -- one new value
  pub put_one : (f : ℕ → A) (k : ℕ) (v : A) → put f (k ∷ []) (v ∷ []) k ≡ v
  put_one f k v = cond-true (k == k) v (f k) (eq-eqb k k refl)

  pub put_else : (f : ℕ → A) (k : ℕ) (v : A) (n : ℕ) → (n ≡ k → ⊥) → put f (k ∷ []) (v ∷ []) n ≡ f n
  put_else f k v n h = cond-false (n == k) v (f n) (ne_eqb n k h)
