-- Links of a forest by themselves.
use Rattle.std.specs.Prelude.{◌<◌, ◌⊎◌}
use Rattle.std.proofs.Common.{◌≡◌, ℕ, List, [], ◌∷◌, inl, inr, refl, sym, ap, ◌∙◌, subst, arith}
use Rattle.std.proofs.lemmas.Bool.{cases_eq}
use Rattle.version_graph.specs.Sets.{In}
use Rattle.version_graph.specs.Forest.{Link}
use Rattle.version_graph.proofs.SetLaws.{in_append, in_left, in_right}
use Rattle.version_graph.proofs.WalkLaws.{IsForest, link_numbers, link_targets, sources_older, targets_apart}
use Rattle.layout_rules.specs.Layouts.{IsMade}

neither : (n k : ℕ) (ks : List ℕ) → (n ≡ k → ⊥) → (In n ks → ⊥) → In n (k ∷ ks) → ⊥
neither n k ks h o (inl e) = h e
neither n k ks h o (inr i) = o i

pub in_or_out : (n : ℕ) (ks : List ℕ) → In n ks ⊎ (In n ks → ⊥)
in_or_out n [] = inr (λ i. i)
in_or_out n (k ∷ ks) =
    elim (cases_eq n k) as (λ _. In n (k ∷ ks) ⊎ (In n (k ∷ ks) → ⊥)) [
      | inl e ↦ inl (inl e)
      | inr h ↦ elim (in_or_out n ks) as (λ _. In n (k ∷ ks) ⊎ (In n (k ∷ ks) → ⊥)) [
        | inl i ↦ inl (inr i)
        | inr o ↦ inr (neither n k ks h o)
      ]
    ]

module _ {O : Type 0} where
  pub number_listed : (es : List (Link O)) (e : Link O) → In e es → In e.number (link_numbers es)
  number_listed [] e i = i
  number_listed (x ∷ es) e (inl h) = inl (ap (λ (y : Link O). y.number) h)
  number_listed (x ∷ es) e (inr i) = inr (number_listed es e i)

  pub target_listed : (es : List (Link O)) (e : Link O) (t : ℕ) → In e es → In t e.targets → In t (link_targets es)
  target_listed [] e t i j = absurd i
  target_listed (x ∷ es) e t (inl h) j = in_left t x.targets (link_targets es) (subst (λ (y : Link O). In t y.targets) h j)
  target_listed (x ∷ es) e t (inr i) j = in_right t x.targets (link_targets es) (target_listed es e t i j)

  pub target_link : (es : List (Link O)) (t : ℕ) → In t (link_targets es) → (e : Link O) × In e es × In t e.targets
  target_link [] t i = absurd i
  target_link (x ∷ es) t i =
      elim (in_append t x.targets (link_targets es) i) as (λ _. (e : Link O) × In e (x ∷ es) × In t e.targets) [
        | inl j ↦ (x, inl refl, j)
        | inr j ↦ (let m = target_link es t j in (m.0, inr m.1, m.2))
      ]

  -- the number tells the link
  pub same_link : (es : List (Link O)) (e f : Link O) → IsForest es → In e es → In f es → e.number ≡ f.number → e ≡ f
  same_link [] e f forest i j h = absurd i
  same_link (x ∷ xs) e f forest (inl i) (inl j) h = i ∙ sym j
  same_link (x ∷ xs) e f forest (inl i) (inr j) h =
      let less = forest.0.newest f.number (inr (number_listed xs f j)) in
      let here = ap (λ (y : Link O). y.number) i in
      absurd (omega arith)
  same_link (x ∷ xs) e f forest (inr i) (inl j) h =
      let less = forest.0.newest e.number (inr (number_listed xs e i)) in
      let here = ap (λ (y : Link O). y.number) j in
      absurd (omega arith)
  same_link (x ∷ xs) e f forest (inr i) (inr j) h = same_link xs e f forest.1 i j h

  -- a table is made once
  pub same_maker : (es : List (Link O)) (e f : Link O) (t : ℕ) → IsForest es → In e es → In f es → In t e.targets → In t f.targets → e ≡ f
  same_maker [] e f t forest i j a b = absurd i
  same_maker (x ∷ xs) e f t forest (inl i) (inl j) a b = i ∙ sym j
  same_maker (x ∷ xs) e f t forest (inl i) (inr j) a b = absurd (forest.0.fresh t (subst (λ (y : Link O). In t y.targets) i a) (target_listed xs f t j b))
  same_maker (x ∷ xs) e f t forest (inr i) (inl j) a b = absurd (forest.0.fresh t (subst (λ (y : Link O). In t y.targets) j b) (target_listed xs e t i a))
  same_maker (x ∷ xs) e f t forest (inr i) (inr j) a b = same_maker xs e f t forest.1 i j a b

  -- sources are made
  pub source_made : (es : List (Link O)) (e : Link O) (t : ℕ) → IsForest es → In e es → In t e.sources → In t (link_targets es)
  source_made [] e t forest i a = absurd i
  source_made (x ∷ xs) e t forest (inl i) a = in_right t x.targets (link_targets xs) (sources_older xs x forest.0 t (subst (λ (y : Link O). In t y.sources) i a))
  source_made (x ∷ xs) e t forest (inr i) a = in_right t x.targets (link_targets xs) (source_made xs e t forest.1 i a)

  -- who takes a table is newer than who makes it
  pub taker_newer : (es : List (Link O)) (e f : Link O) (t : ℕ) → IsForest es → In e es → In f es → In t e.targets → In t f.sources → e.number < f.number
  taker_newer [] e f t forest i j a b = absurd i
  taker_newer (x ∷ xs) e f t forest (inl i) (inl j) a b = absurd (targets_apart xs x forest.0 t (subst (λ (y : Link O). In t y.targets) i a) (subst (λ (y : Link O). In t y.sources) j b))
  taker_newer (x ∷ xs) e f t forest (inl i) (inr j) a b = absurd (forest.0.fresh t (subst (λ (y : Link O). In t y.targets) i a) (source_made xs f t forest.1 j b))
  taker_newer (x ∷ xs) e f t forest (inr i) (inl j) a b =
      let less = forest.0.newest e.number (inr (number_listed xs e i)) in
      let same = ap (λ (y : Link O). y.number) j in
      omega arith
  taker_newer (x ∷ xs) e f t forest (inr i) (inr j) a b = taker_newer xs e f t forest.1 i j a b

  -- the one maker of a table that is made in the layout is in the layout
  pub maker_in : (es : List (Link O)) (layout : List ℕ) (e : Link O) (t : ℕ) → IsForest es → In e es → In t e.targets → IsMade es layout t → In e.number layout
  maker_in es layout e t forest i a m = subst (λ (y : Link O). In y.number layout) (same_maker es m.0 e t forest m.1 i m.3 a) m.2
