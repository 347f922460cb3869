-- Which tables a layout stores, by the links of a forest.
use Rattle.std.specs.Prelude.{◌⊎◌, ◌↔◌}
use Rattle.std.proofs.Common.{◌≡◌, ℕ, List, [], ◌∷◌, false, inl, inr, refl, sym, ◌∙◌, subst, map}
use Rattle.std.proofs.lemmas.Bool.{false_from_ne_true, false≢true}
use Rattle.version_graph.specs.Sets.{In}
use Rattle.version_graph.specs.Edges.{is_in}
use Rattle.version_graph.specs.Forest.{Link, forest}
use Rattle.version_graph.proofs.SetLaws.{in_of_test, is_in_true}
use Rattle.version_graph.proofs.WalkLaws.{Fits, IsForest, targets_apart}
use Rattle.version_model.proofs.HeadingLaws.{in_or_not}
use Rattle.layout_rules.specs.Layouts.{IsStored}
use Rattle.layout_rules.proofs.LinkLaws.{source_made}

-- ---- tests

pub not_in_false : (n : ℕ) (ks : List ℕ) → (In n ks → ⊥) → is_in n ks ≡ false
not_in_false n ks out = false_from_ne_true (is_in n ks) (λ is. out (in_of_test n ks is))

pub not_in_of_false : (n : ℕ) (ks : List ℕ) → is_in n ks ≡ false → In n ks → ⊥
not_in_of_false n ks is i = false≢true (sym is ∙ is_in_true n ks i)

-- lists that both have a number or both lack it
pub same_test : (n : ℕ) (ks ls : List ℕ) → (In n ks ↔ In n ls) → is_in n ks ≡ is_in n ls
same_test n ks ls both =
    in_or_not n ls (is_in n ks ≡ is_in n ls)
    (λ i. is_in_true n ks (both.1 i) ∙ sym (is_in_true n ls i))
    (λ o. not_in_false n ks (λ i. o (both.0 i)) ∙ sym (not_in_false n ls o))

pub map_none : {X Y : Type 0} (f : X → Y) (xs : List X) → map f xs ≡ [] → xs ≡ []
map_none f [] none = refl
map_none f (x ∷ xs) none = let clash : f x ∷ map f xs ≡ [] = none in absurd (let no : ⊥ = cc in no)

module _ {O : Type 0} where
  -- no operator takes what it makes
  pub apart_at : (es : List (Link O)) (e : Link O) (t : ℕ) → IsForest es → In e es → In t e.targets → In t e.sources → ⊥
  apart_at [] e t forest i a b = absurd i
  apart_at (x ∷ xs) e t forest (inl i) a b = targets_apart xs x forest.0 t (subst (λ (y : Link O). In t y.targets) i a) (subst (λ (y : Link O). In t y.sources) i b)
  apart_at (x ∷ xs) e t forest (inr i) a b = apart_at xs e t forest.1 i a b

  -- ---- stored tables

  -- an operator of the layout with the table on this side is the newest one or an older one
  pub split : (side : Link O → List ℕ) (e : Link O) (es : List (Link O)) (layout : List ℕ) (t : ℕ) → (f : Link O) × In f (e ∷ es) × In f.number layout × In t (side f) → (In e.number layout × In t (side e)) ⊎ ((f : Link O) × In f es × In f.number layout × In t (side f))
  split side e es layout t m =
      elim m.1 as (λ _. (In e.number layout × In t (side e)) ⊎ ((f : Link O) × In f es × In f.number layout × In t (side f))) [
        | inl same ↦ inl (subst (λ (y : Link O). In y.number layout) same m.2, subst (λ (y : Link O). In t (side y)) same m.3)
        | inr j ↦ inr (m.0, j, m.2, m.3)
      ]

  -- what the newest operator makes is stored where it is in the layout
  pub stored_here : (e : Link O) (es : List (Link O)) (layout : List ℕ) (t : ℕ) → Fits es e → IsForest es → In e.number layout → In t e.targets → IsStored (e ∷ es) layout t
  stored_here e es layout t fit forest a i = record {
    made = (e, inl refl, a, i);
    free = λ k. elim (split (λ (y : Link O). y.sources) e es layout t k) as (λ _. ⊥) [ inl j ↦ targets_apart es e fit t i j.1 | inr j ↦ fit.fresh t i (source_made es j.0 t forest j.1 j.3) ];
  }

  -- what older operators store stays stored where the newest one doesn't take it
  pub stored_more : (e : Link O) (es : List (Link O)) (layout : List ℕ) (t : ℕ) → IsStored es layout t → (In e.number layout → In t e.sources → ⊥) → IsStored (e ∷ es) layout t
  stored_more e es layout t k spares = record {
    made = (k.made.0, inr k.made.1, k.made.2, k.made.3);
    free = λ j. elim (split (λ (y : Link O). y.sources) e es layout t j) as (λ _. ⊥) [ inl i ↦ spares i.0 i.1 | inr i ↦ k.free i ];
  }
