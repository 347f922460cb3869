-- Operators with a named version at or below them.
use mathlib.Core.List.{reverse}
use Rattle.std.proofs.Common.{◌≡◌, ℕ, ◌-◌, ◌<◌, ◌≤◌, List, [], ◌∷◌, get_or, take, drop, Bool, true, false, cond, refl, sym, ap, ◌∙◌, subst, length, arith, inl, inr}
use Rattle.std.specs.Prelude.{◌==◌, ◌&&◌}
use Rattle.std.proofs.lemmas.Bool.{and_from, cond-false, cond-true, eq-eqb, eqb-true, ne_eqb, and_parts}
use Rattle.version_graph.specs.Sets.{In, Each}
use Rattle.version_graph.specs.Edges.{AreEdges, numbers, is_in}
use Rattle.version_graph.specs.Finished.{HasBelow, are_needed, way}
use Rattle.version_graph.specs.Forest.{crossed, crossing, forest, link, up}
use Rattle.version_graph.specs.Kept.{placed_in, needed_by}
use Rattle.version_graph.specs.declared.node.Node.{Node}
use Rattle.version_graph.specs.declared.parts.Placed.{Placed}
use Rattle.version_graph.proofs.SetLaws.{each_at, each_more, each_of, in_of_test, is_in_true}
use Rattle.version_graph.proofs.ShedLemmas.{above, opened}

module _ {O : Type 0} where
  -- a way begins at its own operator, and goes on from the parent
  pub way_step : (e : Placed O) (es : List (Placed O)) (w : ℕ) → way (e ∷ es) w ≡ cond (w == e.number) (e.number ∷ way es e.parent) (way es w)
  way_step e es w =
      elim (w == e.number) as (λ b. crossed (cond b (crossing true (link es e) ∷ up (forest es) e.parent) (up (forest es) w)) ≡ cond b (e.number ∷ way es e.parent) (way es w)) [ true ↦ refl | false ↦ refl ]

  -- a way has live operators alone
  pub way_lives : (es : List (Placed O)) (w n : ℕ) → In n (way es w) → In n (numbers es)
  way_lives [] w n i = i
  way_lives (e ∷ es) w n i =
      (elim (w == e.number) as (λ b. In n (cond b (e.number ∷ way es e.parent) (way es w)) → In n (e.number ∷ numbers es)) [
        | true ↦ λ j. elim j as (λ _. In n (e.number ∷ numbers es)) [ inl same ↦ inl same | inr k ↦ inr (way_lives es e.parent n k) ]
        | false ↦ λ j. inr (way_lives es w n j)
      ]) (subst (λ (l : List ℕ). In n l) (way_step e es w) i)

  -- a way that has an operator goes from a live one
  pub way_from : (es : List (Placed O)) (w n : ℕ) → In n (way es w) → In w (numbers es)
  way_from [] w n i = absurd i
  way_from (e ∷ es) w n i =
      (elim (w == e.number) as (λ b. (w == e.number) ≡ b → In n (cond b (e.number ∷ way es e.parent) (way es w)) → In w (e.number ∷ numbers es)) [
        | true ↦ λ same j. inl (eqb-true w e.number same)
        | false ↦ λ other j. inr (way_from es w n j)
      ]) refl (subst (λ (l : List ℕ). In n l) (way_step e es w) i)

  pub newest_way : (e : Placed O) (es : List (Placed O)) → way (e ∷ es) e.number ≡ e.number ∷ way es e.parent
  newest_way e es = way_step e es e.number ∙ cond-true (e.number == e.number) (e.number ∷ way es e.parent) (way es e.number) (eq-eqb e.number e.number refl)

  pub older_way : (e : Placed O) (es : List (Placed O)) (w : ℕ) → (w ≡ e.number → ⊥) → way (e ∷ es) w ≡ way es w
  older_way e es w other = way_step e es w ∙ cond-false (w == e.number) (e.number ∷ way es e.parent) (way es w) (ne_eqb w e.number other)

  -- the newest number is no older one
  pub not_older : (e : Placed O) (es : List (Placed O)) → AreEdges (e ∷ es) → In e.number (numbers es) → ⊥
  not_older e es edges i = let less = edges.0.newest e.number (inr i) in omega arith

  -- what is at or below an operator is so among more edges
  pub more_below : (e : Placed O) (es : List (Placed O)) (sets : List ℕ) (n : ℕ) → AreEdges (e ∷ es) → HasBelow es sets n → HasBelow (e ∷ es) sets n
  more_below e es sets n edges h =
      (h.0, h.1, subst (λ (l : List ℕ). In n l) (sym (older_way e es h.0 (λ same. not_older e es edges (subst (λ (k : ℕ). In k (numbers es)) same (way_from es h.0 n h.2))))) h.2)

  -- what is at or below an operator through the parent's working set
  pub from_parent : (e : Placed O) (es : List (Placed O)) (sets : List ℕ) (n : ℕ) → AreEdges (e ∷ es) → In e.number sets → HasBelow es (e.parent ∷ sets) n → HasBelow (e ∷ es) sets n
  from_parent e es sets n edges kept h =
      elim h.1 as (λ _. HasBelow (e ∷ es) sets n) [
        | inl same ↦ (e.number, kept, subst (λ (l : List ℕ). In n l) (sym (newest_way e es)) (inr (subst (λ (k : ℕ). In n (way es k)) same h.2)))
        | inr i ↦ more_below e es sets n edges (h.0, i, h.2)
      ]

  pub newest_below : (e : Placed O) (es : List (Placed O)) (sets : List ℕ) → In e.number sets → HasBelow (e ∷ es) sets e.number
  newest_below e es sets kept = (e.number, kept, subst (λ (l : List ℕ). In e.number l) (sym (newest_way e es)) (inl refl))

  -- the newest edge has nothing below it
  newest_named : (e : Placed O) (es : List (Placed O)) (sets : List ℕ) → AreEdges (e ∷ es) → HasBelow (e ∷ es) sets e.number → In e.number sets
  newest_named e es sets edges h =
      (elim (h.0 == e.number) as (λ b. (h.0 == e.number) ≡ b → In e.number (cond b (e.number ∷ way es e.parent) (way es h.0)) → In e.number sets) [
        | true ↦ λ same i. subst (λ (k : ℕ). In k sets) (eqb-true h.0 e.number same) h.1
        | false ↦ λ other i. absurd (not_older e es edges (way_lives es h.0 e.number i))
      ]) refl (subst (λ (l : List ℕ). In e.number l) (way_step e es h.0) h.2)

  -- what is at or below an older operator is so without the newest edge
  less_below : (e : Placed O) (es : List (Placed O)) (sets : List ℕ) (n : ℕ) → AreEdges (e ∷ es) → In n (numbers es) → HasBelow (e ∷ es) sets n → HasBelow es (e.parent ∷ sets) n
  less_below e es sets n edges lives h =
      (elim (h.0 == e.number) as (λ b. In n (cond b (e.number ∷ way es e.parent) (way es h.0)) → HasBelow es (e.parent ∷ sets) n) [
        | true ↦ λ i. elim i as (λ _. HasBelow es (e.parent ∷ sets) n) [
          | inl same ↦ absurd (not_older e es edges (subst (λ (k : ℕ). In k (numbers es)) same lives))
          | inr j ↦ (e.parent, inl refl, j)
        ]
        | false ↦ λ i. (h.0, inr h.1, i)
      ]) (subst (λ (l : List ℕ). In n l) (way_step e es h.0) h.2)

  -- EACH OPERATOR HAS ONE OF THE WORKING SETS AT OR BELOW IT WHERE THE TEST SAYS SO
  pub needed_below : (es : List (Placed O)) (sets : List ℕ) → AreEdges es → are_needed sets es ≡ true → Each (HasBelow es sets) (numbers es)
  needed_below [] sets edges e = tt
  needed_below (f ∷ es) sets edges e =
      let kept = in_of_test f.number sets ((and_parts (is_in f.number sets) (are_needed (f.parent ∷ sets) es) e).0) in
      let more = needed_below es (f.parent ∷ sets) edges.1 ((and_parts (is_in f.number sets) (are_needed (f.parent ∷ sets) es) e).1) in
      (newest_below f es sets kept, each_more (HasBelow es (f.parent ∷ sets)) (HasBelow (f ∷ es) sets) (λ n h. from_parent f es sets n edges kept h) (numbers es) more)

  pub below_needed : (es : List (Placed O)) (sets : List ℕ) → AreEdges es → Each (HasBelow es sets) (numbers es) → are_needed sets es ≡ true
  below_needed [] sets edges h = refl
  below_needed (f ∷ es) sets edges h =
      and_from (is_in f.number sets) (are_needed (f.parent ∷ sets) es) (is_in_true f.number sets (newest_named f es sets edges h.0))
      (below_needed es (f.parent ∷ sets) edges.1 (each_of (HasBelow es (f.parent ∷ sets)) (numbers es) (λ n i. less_below f es sets n edges i (each_at (HasBelow (f ∷ es) sets) (numbers es) n i h.1))))

-- one node less to test
module _ {O : Type 0} (nodes : List (Node O)) (left : ℕ) (k : Node O) (some : 0 < left) (within : left ≤ length nodes) (is : k ≡ get_or nodes (left - 1) k) where
  pub one_less : (sets : List ℕ) (b : Bool) → is_in k.placed.number (needed_by (drop left nodes) sets) ≡ b
      → are_needed (needed_by (drop left nodes) sets) (placed_in (reverse (take left nodes))) ≡ (b && are_needed (needed_by (drop (left - 1) nodes) sets) (placed_in (reverse (take (left - 1) nodes))))
  one_less sets b test =
      let under = placed_in (reverse (take (left - 1) nodes)) in
      ap (λ (es : List (Placed O)). are_needed (needed_by (drop left nodes) sets) es) (opened nodes left k some within is)
      ∙ ap (λ (c : Bool). c && are_needed (k.placed.parent ∷ needed_by (drop left nodes) sets) under) test
      ∙ ap (λ (l : List (Node O)). b && are_needed (needed_by l sets) under) (sym (above nodes left k some within is))
