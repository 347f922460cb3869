-- Ascending nodes, halved: the place of an operator.
use Rattle.std.proofs.Common.{◌≡◌, ℕ, suc, ◌-◌, ◌<◌, ◌≤◌, List, [], ◌∷◌, Bool, true, false, ltb, cond, length, get_or, refl, sym, ap, ◌∙◌, subst, arith, inl, inr}
use Rattle.std.specs.Prelude.{◌==◌, Some, None, slice_get}
use Rattle.std.specs.List.{find}
use Rattle.std.specs.List.Sorted.{IsNonDecreasingBy}
use Rattle.std.proofs.lemmas.Bool.{cases_lt, eq-eqb, eqb-true, ltb-true, ltb-false}
use Rattle.std.proofs.lemmas.List.{reverse-append, reverse-reverse}
use Rattle.std.proofs.lemmas.List.Sorted.{IsNonDecreasingBy-push, IsNonDecreasingBy-short}
use Rattle.std.proofs.lemmas.Option.{get_or_from_slice_get, slice_get-get_or, slice_get_within}
use mathlib.Core.List.{reverse}
use Rattle.version_graph.specs.Sets.{In}
use Rattle.version_graph.specs.Edges.{AreEdges}
use Rattle.version_graph.specs.Kept.{edges_of, placed_in}
use Rattle.version_graph.specs.Calls.{IsPlaceFor}
use Rattle.version_graph.specs.declared.node.Node.{Node}
use Rattle.version_graph.proofs.NodeLaws.{first_node}
use Rattle.version_graph.proofs.TakenLaws.{only_found, same_item}
use Rattle.version_graph.proofs.WalkStepLaws.{in_at, in_reverse, node_number, nodes_once}

-- where no item passes, none is found
pub none_found : {X : Type 0} (test : X → Bool) (xs : List X) → ((u : X) → In u xs → test u ≡ true → ⊥) → find test xs ≡ None
none_found test [] none = refl
none_found test (x ∷ xs) none =
    (elim (test x) as (λ b. test x ≡ b → cond b (Some x) (find test xs) ≡ None) [
      | true ↦ λ is. absurd (none x (inl refl) is)
      | false ↦ λ is. none_found test xs (λ u i. none u (inr i))
    ]) refl

-- each item stands at a place
pub stands_at : {X : Type 0} (x : X) (xs : List X) (d : X) → In x xs → (i : ℕ) × (i < length xs) × (get_or xs i d ≡ x)
stands_at x [] d i = absurd i
stands_at x (y ∷ ys) d (inl e) = (0, omega arith, sym e)
stands_at x (y ∷ ys) d (inr i) = let more = stands_at x ys d i in (suc more.0, omega (arith, more.1), more.2)

module _ {O : Type 0} where
  abbrev number_of : Node O → ℕ
  number_of k = k.placed.number

  -- nodes ascend, from the oldest on
  rising : (ns : List (Node O)) → AreEdges (placed_in ns) → IsNonDecreasingBy number_of (reverse ns)
  rising [] edges = IsNonDecreasingBy-short number_of [] (omega arith)
  rising (k ∷ ns) edges =
      subst (λ (l : List (Node O)). IsNonDecreasingBy number_of l) (sym (reverse-append (k ∷ []) ns))
      (IsNonDecreasingBy-push number_of (reverse ns) k (rising ns edges.1) (λ d some.
      let m = get_or (reverse ns) (length (reverse ns) - 1) d in
      let here = in_at (reverse ns) (length (reverse ns) - 1) d (omega arith) in
      let there = subst (λ (l : List (Node O)). In m l) (reverse-reverse ns) (in_reverse m (reverse ns) here) in
      let less = edges.0.newest m.placed.number (inr (node_number ns m there)) in
      omega arith))

  pub rising_nodes : (nodes : List (Node O)) → AreEdges (edges_of nodes) → IsNonDecreasingBy number_of nodes
  rising_nodes nodes edges = subst (λ (l : List (Node O)). IsNonDecreasingBy number_of l) (reverse-reverse nodes) (rising (reverse nodes) edges)

  -- the place that halving finds
  pub place_for : (nodes : List (Node O)) (number place : ℕ) → place ≤ length nodes → ((i : ℕ) (k : Node O) → 0 ≤ i → i < place → ltb (get_or nodes i k).placed.number number ≡ true)
      → ((i : ℕ) (k : Node O) → place ≤ i → i < length nodes → ltb (get_or nodes i k).placed.number number ≡ false) → IsPlaceFor nodes number place
  place_for nodes number place within below above = record {
    within = within;
    older = λ i k less. ltb-true (get_or nodes i k).placed.number number (below i k (omega arith) less);
    others = λ i k low less. ltb-false (get_or nodes i k).placed.number number (above i k low less);
  }

  -- a node that has the number is the operator's
  pub node_here : (nodes : List (Node O)) → AreEdges (edges_of nodes) → (n i : ℕ) (k : Node O) → slice_get nodes i ≡ Some k → k.placed.number ≡ n → first_node (reverse nodes) n ≡ Some k
  node_here nodes edges n i k found same =
      let here : In k nodes = subst (λ (m : Node O). In m nodes) (get_or_from_slice_get nodes i k k found) (in_at nodes i k (slice_get_within nodes i k found)) in
      let turned = in_reverse k nodes here in
      only_found (λ (m : Node O). n == m.placed.number) (reverse nodes) k turned (eq-eqb n k.placed.number (sym same))
      (λ m h e. same_item number_of (reverse nodes) m k (nodes_once (reverse nodes) edges) h turned (sym (eqb-true n m.placed.number e) ∙ sym same))

  -- where no node from the place on has the number, none has
  node_nowhere : (nodes : List (Node O)) (n place : ℕ) → IsPlaceFor nodes n place → ((i : ℕ) (k : Node O) → place ≤ i → i < length nodes → (get_or nodes i k).placed.number ≡ n → ⊥) → first_node (reverse nodes) n ≡ None
  node_nowhere nodes n place at none =
      none_found (λ (m : Node O). n == m.placed.number) (reverse nodes) (λ u i e.
      let j = subst (λ (l : List (Node O)). In u l) (reverse-reverse nodes) (in_reverse u (reverse nodes) i) in
      let p = stands_at u nodes u j in
      let same : (get_or nodes p.0 u).placed.number ≡ n = ap number_of p.2 ∙ sym (eqb-true n u.placed.number e) in
      elim (cases_lt p.0 place) as (λ _. ⊥) [
        | inl less ↦ (let older = at.older p.0 u less in omega (arith, same))
        | inr more ↦ none p.0 u more p.1 same
      ])

  -- behind the last node there is none
  pub none_behind : (nodes : List (Node O)) (n place : ℕ) → IsPlaceFor nodes n place → slice_get nodes place ≡ None → first_node (reverse nodes) n ≡ None
  none_behind nodes n place at out =
      node_nowhere nodes n place at (λ i k low less same.
      let there : Some (get_or nodes place k) ≡ None = sym (slice_get-get_or nodes place k (omega arith)) ∙ out in
      cc)

  -- a node of a greater number stands there
  pub none_here : (nodes : List (Node O)) → AreEdges (edges_of nodes) → (n place : ℕ) (k : Node O) → IsPlaceFor nodes n place → slice_get nodes place ≡ Some k → (k.placed.number ≡ n → ⊥) → first_node (reverse nodes) n ≡ None
  none_here nodes edges n place k at found other =
      let within = slice_get_within nodes place k found in
      let is = ap number_of (get_or_from_slice_get nodes place k k found) in
      let low = at.others place k (omega arith) within in
      node_nowhere nodes n place at (λ i m more less same.
      let here = ap number_of (get_or_from_slice_get nodes place k m found) in
      let rises = rising_nodes nodes edges place i m more less in
      other (omega (arith, is, low, here, rises, same)))
