-- A table is made in the tree of the operators that take it.
use Rattle.std.specs.Prelude.{◌==◌, ◌<◌}
use Rattle.std.proofs.Common.{◌≡◌, ℕ, List, [], ◌∷◌, ◌++◌, true, false, not, cond, inl, inr, refl, sym, ap, ◌∙◌, subst, arith}
use Rattle.std.proofs.lemmas.Bool.{cond-false, cond-true, eq-eqb, eqb-true, ne_eqb}
use Rattle.version_graph.specs.Sets.{In}
use Rattle.version_graph.specs.Edges.{is_in}
use Rattle.version_graph.specs.Forest.{Link, minus, tables_in, tree}
use Rattle.version_graph.proofs.SetLaws.{in_append}
use Rattle.version_graph.proofs.TableLaws.{in_filter}
use Rattle.version_graph.proofs.WalkLaws.{Fits, IsForest, link_numbers, tables_made, targets_apart}
use Rattle.layout_rules.proofs.LinkLaws.{number_listed, source_made, target_listed}

module _ {O : Type 0} where
  older : (x : Link O) (es : List (Link O)) (n : ℕ) → Fits es x → In n (link_numbers es) → tree (x ∷ es) n ≡ tree es n
  older x es n fit i =
      let less = fit.newest n (inr i) in
      cond-false (n == x.number) (cond (x.parent == 0) x.number (tree es x.parent)) (tree es n) (ne_eqb n x.number (λ same. omega arith))

  above_none : (es : List (Link O)) → IsForest es → (n : ℕ) → In n (link_numbers es) → 0 < n
  above_none [] forest n i = absurd i
  above_none (x ∷ es) forest n (inl same) = let less = forest.0.newest 0 (inl refl) in omega arith
  above_none (x ∷ es) forest n (inr i) = above_none es forest.1 n i

  -- a working set with a table lives
  set_lives : (es : List (Link O)) (w t : ℕ) → In t (tables_in es w) → In w (link_numbers es)
  set_lives [] w t i = absurd i
  set_lives (x ∷ es) w t i =
      (elim (w == x.number) as (λ b. (w == x.number) ≡ b → In t (cond b (minus (tables_in es x.parent) x.sources ++ x.targets) (tables_in es w)) → In w (x.number ∷ link_numbers es)) [
        | true ↦ λ is j. inl (eqb-true w x.number is)
        | false ↦ λ is j. inr (set_lives es w t j)
      ]) refl i

  -- an operator on a working set with a table is in its tree
  below : (x : Link O) (es : List (Link O)) (t : ℕ) → IsForest es → In t (tables_in es x.parent) → cond (x.parent == 0) x.number (tree es x.parent) ≡ tree es x.parent
  below x es t forest i =
      let more = above_none es forest x.parent (set_lives es x.parent t i) in
      cond-false (x.parent == 0) x.number (tree es x.parent) (ne_eqb x.parent 0 (λ none. omega arith))

  own : (x : Link O) (es : List (Link O)) (w : ℕ) → w ≡ x.number → tree (x ∷ es) w ≡ cond (x.parent == 0) x.number (tree es x.parent)
  own x es w same = cond-true (w == x.number) (cond (x.parent == 0) x.number (tree es x.parent)) (tree es w) (eq-eqb w x.number same)

  not_new : (x : Link O) (es : List (Link O)) (f : Link O) (t w : ℕ) → Fits es x → f ≡ x → In t f.targets → In t (tables_in es w) → ⊥
  not_new x es f t w fit is a i = fit.fresh t (subst (λ (y : Link O). In t y.targets) is a) (tables_made es w t i)

  -- the tables of a working set were made in its tree
  set_tree : (es : List (Link O)) → IsForest es → (w t : ℕ) (f : Link O) → In f es → In t f.targets → In t (tables_in es w) → tree es f.number ≡ tree es w
  set_tree [] forest w t f j a i = absurd j
  set_tree (x ∷ es) forest w t f (inl is) a i =
      (elim (w == x.number) as (λ b. (w == x.number) ≡ b → In t (cond b (minus (tables_in es x.parent) x.sources ++ x.targets) (tables_in es w)) → tree (x ∷ es) f.number ≡ tree (x ∷ es) w) [
        | true ↦ λ same k. ap (λ (n : ℕ). tree (x ∷ es) n) (ap (λ (y : Link O). y.number) is ∙ sym (eqb-true w x.number same))
        | false ↦ λ same k. absurd (not_new x es f t w forest.0 is a k)
      ]) refl i
  set_tree (x ∷ es) forest w t f (inr j) a i =
      let here = older x es f.number forest.0 (number_listed es f j) in
      (elim (w == x.number) as (λ b. (w == x.number) ≡ b → In t (cond b (minus (tables_in es x.parent) x.sources ++ x.targets) (tables_in es w)) → tree (x ∷ es) f.number ≡ tree (x ∷ es) w) [
        | true ↦ λ same k. elim (in_append t (minus (tables_in es x.parent) x.sources) x.targets k) as (λ _. tree (x ∷ es) f.number ≡ tree (x ∷ es) w) [
          | inl l ↦
              let kept = in_filter (λ y. not (is_in y x.sources)) t (tables_in es x.parent) l in
              here ∙ set_tree es forest.1 x.parent t f j a kept ∙ sym (own x es w (eqb-true w x.number same) ∙ below x es t forest.1 kept)
          | inr l ↦ absurd (forest.0.fresh t l (target_listed es f t j a))
        ]
        | false ↦ λ same k. here ∙ set_tree es forest.1 w t f j a k ∙ sym (older x es w forest.0 (set_lives es w t k))
      ]) refl i

  -- who made a source table of an operator is in its tree
  pub source_tree : (es : List (Link O)) → IsForest es → (e f : Link O) (t : ℕ) → In e es → In f es → In t e.sources → In t f.targets → tree es f.number ≡ tree es e.number
  source_tree [] forest e f t i j a b = absurd i
  source_tree (x ∷ es) forest e f t (inl is) (inl at) a b = absurd (targets_apart es x forest.0 t (subst (λ (y : Link O). In t y.targets) at b) (subst (λ (y : Link O). In t y.sources) is a))
  source_tree (x ∷ es) forest e f t (inl is) (inr j) a b =
      let held = forest.0.within t (subst (λ (y : Link O). In t y.sources) is a) in
      older x es f.number forest.0 (number_listed es f j) ∙ set_tree es forest.1 x.parent t f j b held ∙ sym (own x es e.number (ap (λ (y : Link O). y.number) is) ∙ below x es t forest.1 held)
  source_tree (x ∷ es) forest e f t (inr i) (inl at) a b = absurd (forest.0.fresh t (subst (λ (y : Link O). In t y.targets) at b) (source_made es e t forest.1 i a))
  source_tree (x ∷ es) forest e f t (inr i) (inr j) a b =
      older x es f.number forest.0 (number_listed es f j) ∙ source_tree es forest.1 e f t i j a b ∙ sym (older x es e.number forest.0 (number_listed es e i))
