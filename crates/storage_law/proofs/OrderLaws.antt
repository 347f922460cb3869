-- The order of operators: those around a place, those before and behind one, and which tables each keeps.
use Rattle.std.specs.Prelude.{◌<◌, ◌⊎◌, slice_get}
use Rattle.std.proofs.Common.{◌≡◌, ℕ, ◌+◌, List, [], ◌∷◌, ◌++◌, drop, take, Option, Some, None, inl, inr, refl, sym, ap, ◌∙◌, subst, arith}
use Rattle.std.proofs.lemmas.Bool.{cond-false, cond-true}
use Rattle.std.proofs.lemmas.List.{reverse-append, reverse-reverse, take-append-drop}
use mathlib.Core.List.{reverse}
use Rattle.version_graph.specs.Sets.{In}
use Rattle.version_graph.specs.Edges.{is_in}
use Rattle.version_graph.specs.Forest.{Link, forest}
use Rattle.version_graph.specs.declared.parts.Placed.{Placed}
use Rattle.version_graph.proofs.SetLaws.{in_right, is_in_true}
use Rattle.version_graph.proofs.WalkLaws.{IsForest}
use Rattle.layout_rules.specs.Layouts.{IsTaken}
use Rattle.layout_rules.proofs.DownLaws.{Beside, below, below_next, beside, forest_end}
use Rattle.layout_rules.proofs.LinkLaws.{in_or_out, number_listed}
use Rattle.version_model.specs.Making.{ascending}
use Rattle.storage_law.specs.Storage.{stored_way}
use Rattle.storage_law.proofs.LinkLaws.{not_in_false}

module _ {O : Type 0} where
  -- an operator of the layout takes the table, or none does
  pub taken_or : (es : List (Link O)) (layout : List ℕ) (t : ℕ) → IsTaken es layout t ⊎ (IsTaken es layout t → ⊥)
  taken_or [] layout t = inr (λ k. absurd k.1)
  taken_or (x ∷ es) layout t =
      let Goal : Type 0 = IsTaken (x ∷ es) layout t ⊎ (IsTaken (x ∷ es) layout t → ⊥) in
      elim (taken_or es layout t) as (λ _. Goal) [
        | inl k ↦ inl (k.0, inr k.1, k.2, k.3)
        | inr none ↦ elim (in_or_out x.number layout) as (λ _. Goal) [
          | inl has ↦ elim (in_or_out t x.sources) as (λ _. Goal) [
            | inl i ↦ inl (x, inl refl, has, i)
            | inr out ↦ inr (λ k. elim k.1 as (λ _. ⊥) [ inl same ↦ out (subst (λ (y : Link O). In t y.sources) same k.3) | inr j ↦ none (k.0, j, k.2, k.3) ])
          ]
          | inr off ↦ inr (λ k. elim k.1 as (λ _. ⊥) [ inl same ↦ off (subst (λ (y : Link O). In y.number layout) same k.2) | inr j ↦ none (k.0, j, k.2, k.3) ])
        ]
      ]

  -- ---- the order of operators

  -- what stands behind an operator is older
  pub behind_older : (xs : List (Link O)) (e : Link O) (fs : List (Link O)) → IsForest (xs ++ e ∷ fs) → (g : Link O) → In g fs → g.number < e.number
  behind_older xs e fs forest g i = (forest_end xs (e ∷ fs) forest).0.newest g.number (inr (number_listed fs g i))

  -- all older ones stand behind it
  pub older_behind : (xs : List (Link O)) (e : Link O) (fs : List (Link O)) → IsForest (xs ++ e ∷ fs) → (g : Link O) → In g (xs ++ e ∷ fs) → g.number < e.number → In g fs
  older_behind [] e fs forest g (inl same) less = let n = ap (λ (y : Link O). y.number) same in absurd (omega (arith, n, less))
  older_behind [] e fs forest g (inr i) less = i
  older_behind (x ∷ xs) e fs forest g (inl same) less =
      let n = ap (λ (y : Link O). y.number) same in
      let newest = forest.0.newest e.number (inr (number_listed (xs ++ e ∷ fs) e (in_right e xs (e ∷ fs) (inl refl)))) in
      absurd (omega (arith, n, less, newest))
  older_behind (x ∷ xs) e fs forest g (inr i) less = older_behind xs e fs forest.1 g i less

-- ---- the tables that an operator keeps

module _ {O : Type 0} (layout : List ℕ) where
  -- an operator of the layout keeps its targets
  pub near_in : (e : Link O) (t : ℕ) → In e.number layout → In t e.targets → In t (stored_way layout e).near
  near_in e t has i = subst (λ (l : List ℕ). In t l) (sym (cond-true (is_in e.number layout) e.targets e.sources (is_in_true e.number layout has))) i

  -- another one keeps its sources
  pub near_out : (e : Link O) (t : ℕ) → (In e.number layout → ⊥) → In t e.sources → In t (stored_way layout e).near
  near_out e t off i = subst (λ (l : List ℕ). In t l) (sym (cond-false (is_in e.number layout) e.targets e.sources (not_in_false e.number layout off))) i

-- ---- the operators around a place

module _ {O : Type 0} (es : List (Placed O)) where
  -- the operators from a place on
  abbrev pub newer : ℕ → List (Link O)
  newer i = reverse (drop i (ascending es))

  -- and those below it
  pub split : (i : ℕ) → forest es ≡ newer i ++ below es i
  split i = sym (reverse-reverse (forest es)) ∙ sym (ap (λ (l : List (Link O)). reverse l) (take-append-drop i (ascending es))) ∙ reverse-append (take i (ascending es)) (drop i (ascending es))

  -- the operator at a place stands before those below it
  pub next : (i : ℕ) (f : Link O) → slice_get (ascending es) i ≡ Some f → below es (i + 1) ≡ f ∷ below es i
  next i f here = below_next es i (Some f) (sym here)

  -- the operators around a place
  pub split_at : (i : ℕ) (f : Link O) → slice_get (ascending es) i ≡ Some f → forest es ≡ newer (i + 1) ++ f ∷ below es i
  split_at i f here = split (i + 1) ∙ ap (λ (l : List (Link O)). newer (i + 1) ++ l) (next i f here)

-- the link at the place of an edge
pub link_at : {O : Type 0} (es : List (Placed O)) (i : ℕ) (e : Placed O) → Some e ≡ slice_get (reverse es) i → (f : Link O) × (slice_get (ascending es) i ≡ Some f) × (e.number ≡ f.number)
link_at {O} es i e found = one (slice_get (ascending es) i) refl (subst (λ (o : Option (Placed O)). Beside o (slice_get (ascending es) i)) (sym found) (beside es i))
  where
    one : (q : Option (Link O)) → slice_get (ascending es) i ≡ q → Beside (Some e) q → (f : Link O) × (slice_get (ascending es) i ≡ Some f) × (e.number ≡ f.number)
    one None got both = absurd both
    one (Some f) got both = (f, got, both.0)
