-- The numbers of live operators, in ascending order.
use Rattle.std.specs.Prelude.{◌≤◌}
use Rattle.std.proofs.Common.{◌≡◌, ℕ, List, [], ◌∷◌, length, take, inl, inr, refl, sym, subst, ◌∙◌, arith}
use Rattle.std.proofs.lemmas.List.{length-reverse, reverse-append, reverse-reverse, take_all}
use mathlib.Core.List.{reverse}
use Rattle.version_graph.specs.Sets.{Distinct, In}
use Rattle.version_graph.specs.Edges.{AreEdges, numbers}
use Rattle.version_graph.specs.declared.parts.Placed.{Placed}
use Rattle.version_graph.proofs.TableLaws.{distinct_append}
use Rattle.version_graph.proofs.WalkStepLaws.{in_reverse}

module _ {O : Type 0} where
  length_numbers : (es : List (Placed O)) → length (numbers es) ≡ length es
  length_numbers [] = refl
  length_numbers (e ∷ es) = let rest = length_numbers es in omega (arith, rest)

  -- behind the last operator all numbers are there
  pub all_numbers : (es : List (Placed O)) (i : ℕ) (made : List ℕ) → length es ≤ i → made ≡ take i (reverse (numbers es)) → made ≡ reverse (numbers es)
  all_numbers es i made past is =
      let many = length-reverse (numbers es) in
      let live = length_numbers es in
      is ∙ take_all i (reverse (numbers es)) (omega (arith, past, many, live))

  -- none comes twice
  pub numbers_once : (es : List (Placed O)) → AreEdges es → Distinct (reverse (numbers es))
  numbers_once [] edges = tt
  numbers_once (e ∷ es) edges =
      subst (λ (l : List ℕ). Distinct l) (sym (reverse-append (e.number ∷ []) (numbers es)))
      (distinct_append (reverse (numbers es)) (e.number ∷ []) (numbers_once es edges.1) ((λ i. i), tt) (λ n i j. elim j as (λ _. ⊥) [
        | inl same ↦
            let older : In n (numbers es) = subst (λ (l : List ℕ). In n l) (reverse-reverse (numbers es)) (in_reverse n (reverse (numbers es)) i) in
            let less = edges.0.newest n (inr older) in
            omega (arith, less, same)
        | inr out ↦ out
      ]))
