-- A pass over the nodes from the newest on, with the way up and the rest apart.
use Rattle.std.proofs.Common.{◌≡◌, ℕ, suc, ◌+◌, ◌-◌, ◌<◌, ◌≤◌, List, [], ◌∷◌, ◌++◌, Bool, true, false, cond, refl, sym, ap, ◌∙◌, subst, map, length, take, get_or, arith, inl, inr, append_assoc}
use Rattle.std.specs.Prelude.{◌==◌, Some}
use Rattle.std.proofs.lemmas.Bool.{eq-eqb, ne_eqb, eqb-true}
use Rattle.std.proofs.lemmas.List.{take_more, map-append, reverse-append}
use mathlib.Core.List.{reverse}
use Rattle.version_graph.specs.Sets.{In, Distinct}
use Rattle.version_graph.specs.Edges.{AreEdges, numbers}
use Rattle.version_graph.specs.Forest.{Link, forest, link, crossing, step_told, up, rest, tree}
use Rattle.version_graph.specs.Kept.{AreRight, placed_in, edges_of}
use Rattle.version_graph.specs.declared.parts.Step.{Step}
use Rattle.version_graph.specs.declared.node.Node.{Node}
use Rattle.version_graph.proofs.SetLaws.{in_left, in_right, origin}
use Rattle.version_graph.proofs.TakenLaws.{same_item, only_found}
use Rattle.version_graph.proofs.NodeLaws.{first_node, tree_of_node}
use Rattle.version_graph.proofs.GrowLaws.{last_first}

abbrev pub step_at : ℕ → Bool → Step
step_at n back = record { operator = n; backward = back }

-- ---- the nodes from the newest on

pub in_reverse : {X : Type 0} (x : X) (xs : List X) → In x xs → In x (reverse xs)
in_reverse x [] i = absurd i
in_reverse {X} x (y ∷ ys) i =
    let turned : reverse (y ∷ ys) ≡ reverse ys ++ (y ∷ []) = reverse-append (y ∷ []) ys in
    subst (λ (l : List X). In x l) (sym turned) (elim i as (λ _. In x (reverse ys ++ (y ∷ []))) [ inl e ↦ in_right x (reverse ys) (y ∷ []) (inl e) | inr j ↦ in_left x (reverse ys) (y ∷ []) (in_reverse x ys j) ])

pub in_at : {X : Type 0} (xs : List X) (i : ℕ) (d : X) → i < length xs → In (get_or xs i d) xs
in_at [] i d h = absurd (omega arith)
in_at (x ∷ xs) Rattle.std.proofs.Common.zero d h = inl refl
in_at (x ∷ xs) (suc i) d h = inr (in_at xs i d (omega arith))

module _ {O : Type 0} where
  pub node_number : (ns : List (Node O)) (k : Node O) → In k ns → In k.placed.number (numbers (placed_in ns))
  node_number [] k i = absurd i
  node_number (m ∷ ns) k (inl e) = inl (ap (λ (x : Node O). x.placed.number) e)
  node_number (m ∷ ns) k (inr i) = inr (node_number ns k i)

  pub nodes_once : (ns : List (Node O)) → AreEdges (placed_in ns) → Distinct (map (λ (k : Node O). k.placed.number) ns)
  nodes_once [] edges = tt
  nodes_once (k ∷ ns) edges = (
    (λ i.
        let o = origin (λ (m : Node O). m.placed.number) k.placed.number ns i in
        let less = edges.0.newest o.0.placed.number (inr (node_number ns o.0 o.1)) in
        let same = o.2 in
        omega arith),
    nodes_once ns edges.1,
  )

  -- a node's tree is that of its number
  pub tree_is : (nodes : List (Node O)) → AreRight (reverse nodes) → AreEdges (edges_of nodes) → (k : Node O) → In k nodes → tree (forest (edges_of nodes)) k.placed.number ≡ k.tree
  tree_is nodes right edges k i =
      let ns = reverse nodes in
      let j = in_reverse k nodes i in
      let found : first_node ns k.placed.number ≡ Some k = only_found (λ (m : Node O). k.placed.number == m.placed.number) ns k j (eq-eqb k.placed.number k.placed.number refl)
      (λ m h e. same_item (λ (x : Node O). x.placed.number) ns m k (nodes_once ns edges) h j (sym (eqb-true k.placed.number m.placed.number e))) in
      tree_of_node ns right k.placed.number k found

-- ---- one node

module _ {O : Type 0} (nodes : List (Node O)) (left : ℕ) (k : Node O) (some : 0 < left) (within : left ≤ length nodes) (is : k ≡ get_or nodes (left - 1) k) (test : ℕ → Bool) (at : ℕ) where
  abbrev here : ℕ → List (Link O)
  here i = forest (placed_in (reverse (take i nodes)))

  turned : reverse (take left nodes) ≡ k ∷ reverse (take (left - 1) nodes)
  turned =
      let one : left ≡ left - 1 + 1 = omega arith in
      ap (λ (i : ℕ). reverse (take i nodes)) one
      ∙ ap (λ (l : List (Node O)). reverse l) (take_more nodes (left - 1) k (omega arith) ∙ ap (λ (x : Node O). take (left - 1) nodes ++ x ∷ []) (sym is))
      ∙ last_first (take (left - 1) nodes) k

  opened : here left ≡ link (placed_in (reverse (take (left - 1) nodes))) k.placed ∷ here (left - 1)
  opened = ap (λ (l : List (Node O)). forest (placed_in l)) turned

  up_here : at ≡ k.placed.number → map step_told (up (here left) at) ≡ step_at k.placed.number true ∷ map step_told (up (here (left - 1)) k.placed.parent)
  up_here e =
      ap (λ (es : List (Link O)). map step_told (up es at)) opened
      ∙ ap (λ (b : Bool). map step_told (cond b (crossing true (link (placed_in (reverse (take (left - 1) nodes))) k.placed) ∷ up (here (left - 1)) k.placed.parent) (up (here (left - 1)) at))) (eq-eqb at k.placed.number e)

  up_past : (at ≡ k.placed.number → ⊥) → map step_told (up (here left) at) ≡ map step_told (up (here (left - 1)) at)
  up_past e =
      ap (λ (es : List (Link O)). map step_told (up es at)) opened
      ∙ ap (λ (b : Bool). map step_told (cond b (crossing true (link (placed_in (reverse (take (left - 1) nodes))) k.placed) ∷ up (here (left - 1)) k.placed.parent) (up (here (left - 1)) at))) (ne_eqb at k.placed.number e)

  rest_here : at ≡ k.placed.number → map step_told (rest test (here left) at) ≡ map step_told (rest test (here (left - 1)) k.placed.parent)
  rest_here e =
      ap (λ (es : List (Link O)). map step_told (rest test es at)) opened
      ∙ ap (λ (b : Bool). map step_told (cond b (rest test (here (left - 1)) k.placed.parent) (rest test (here (left - 1)) at ++ cond (test k.placed.number) (crossing false (link (placed_in (reverse (take (left - 1) nodes))) k.placed) ∷ []) []))) (eq-eqb at k.placed.number e)

  rest_past : (b : Bool) → (at ≡ k.placed.number → ⊥) → test k.placed.number ≡ b → map step_told (rest test (here left) at) ≡ map step_told (rest test (here (left - 1)) at) ++ cond b (step_at k.placed.number false ∷ []) []
  rest_past b e t =
      ap (λ (es : List (Link O)). map step_told (rest test es at)) opened
      ∙ ap (λ (c : Bool). map step_told (cond c (rest test (here (left - 1)) k.placed.parent) (rest test (here (left - 1)) at ++ cond (test k.placed.number) (crossing false (link (placed_in (reverse (take (left - 1) nodes))) k.placed) ∷ []) []))) (ne_eqb at k.placed.number e)
      ∙ map-append step_told (rest test (here (left - 1)) at) (cond (test k.placed.number) (crossing false (link (placed_in (reverse (take (left - 1) nodes))) k.placed) ∷ []) [])
      ∙ ap (λ (l : List Step). map step_told (rest test (here (left - 1)) at) ++ l)
      (ap (λ (c : Bool). map step_told (cond c (crossing false (link (placed_in (reverse (take (left - 1) nodes))) k.placed) ∷ []) [])) t
      ∙ elim b as (λ c. map step_told (cond c (crossing false (link (placed_in (reverse (take (left - 1) nodes))) k.placed) ∷ []) []) ≡ cond c (step_at k.placed.number false ∷ []) []) [ true ↦ refl | false ↦ refl ])

  module _ (ups others all_up all_rest : List Step) (so_up : ups ++ map step_told (up (here left) at) ≡ all_up) (so_rest : map step_told (rest test (here left) at) ++ reverse others ≡ all_rest) where
    -- the node stands on the way up
    pub on_way : (more : List Step) → more ≡ ups ++ step_at k.placed.number true ∷ [] → at ≡ k.placed.number
        → (more ++ map step_told (up (here (left - 1)) k.placed.parent) ≡ all_up) × (map step_told (rest test (here (left - 1)) k.placed.parent) ++ reverse others ≡ all_rest)
    on_way more m e = (
      ap (λ (l : List Step). l ++ map step_told (up (here (left - 1)) k.placed.parent)) m ∙ append_assoc ups (step_at k.placed.number true ∷ []) (map step_told (up (here (left - 1)) k.placed.parent)) ∙ ap (λ (l : List Step). ups ++ l) (sym (up_here e)) ∙ so_up,
      ap (λ (l : List Step). l ++ reverse others) (sym (rest_here e)) ∙ so_rest,
    )

    -- the node stands elsewhere in the tree
    pub in_tree : (more : List Step) → more ≡ others ++ step_at k.placed.number false ∷ [] → (at ≡ k.placed.number → ⊥) → test k.placed.number ≡ true
        → (ups ++ map step_told (up (here (left - 1)) at) ≡ all_up) × (map step_told (rest test (here (left - 1)) at) ++ reverse more ≡ all_rest)
    in_tree more m e t = (
      ap (λ (l : List Step). ups ++ l) (sym (up_past e)) ∙ so_up,
      ap (λ (l : List Step). map step_told (rest test (here (left - 1)) at) ++ l) (ap (λ (l : List Step). reverse l) m ∙ last_first others (step_at k.placed.number false))
          ∙ sym (append_assoc (map step_told (rest test (here (left - 1)) at)) (step_at k.placed.number false ∷ []) (reverse others))
          ∙ ap (λ (l : List Step). l ++ reverse others) (sym (rest_past true e t)) ∙ so_rest,
    )

    -- the node stands in another tree
    pub elsewhere : (at ≡ k.placed.number → ⊥) → test k.placed.number ≡ false
        → (ups ++ map step_told (up (here (left - 1)) at) ≡ all_up) × (map step_told (rest test (here (left - 1)) at) ++ reverse others ≡ all_rest)
    elsewhere e t = (
      ap (λ (l : List Step). ups ++ l) (sym (up_past e)) ∙ so_up,
      ap (λ (l : List Step). l ++ reverse others) (sym (rest_past false e t ∙ Rattle.std.proofs.lemmas.List.append-nil (map step_told (rest test (here (left - 1)) at)))) ∙ so_rest,
    )

-- whether the node at a place is in the tree of a working set
module _ {O : Type 0} (nodes : List (Node O)) (right : AreRight (reverse nodes)) (edges : AreEdges (edges_of nodes)) (i : ℕ) (k : Node O) (within : i < length nodes) (is : k ≡ get_or nodes i k) (set t : ℕ) (of_set : t ≡ tree (forest (edges_of nodes)) set) where
  own : tree (forest (edges_of nodes)) k.placed.number ≡ k.tree
  own = tree_is nodes right edges k (subst (λ (x : Node O). In x nodes) (sym is) (in_at nodes i k within))

  pub same_tree : k.tree ≡ t → (tree (forest (edges_of nodes)) k.placed.number == tree (forest (edges_of nodes)) set) ≡ true
  same_tree e = eq-eqb (tree (forest (edges_of nodes)) k.placed.number) (tree (forest (edges_of nodes)) set) (own ∙ e ∙ of_set)

  pub other_tree : (k.tree ≡ t → ⊥) → (tree (forest (edges_of nodes)) k.placed.number == tree (forest (edges_of nodes)) set) ≡ false
  other_tree e = ne_eqb (tree (forest (edges_of nodes)) k.placed.number) (tree (forest (edges_of nodes)) set) (λ same. e (sym own ∙ same ∙ sym of_set))

-- the pass is over
pub walked : {O : Type 0} (nodes : List (Node O)) (left at : ℕ) (test : ℕ → Bool) (ups others all_up all_rest : List Step) → left ≡ 0 → ups ++ map step_told (up (forest (placed_in (reverse (take left nodes)))) at) ≡ all_up
    → map step_told (rest test (forest (placed_in (reverse (take left nodes)))) at) ++ reverse others ≡ all_rest → ups ++ reverse others ≡ all_up ++ all_rest
walked nodes left at test ups others all_up all_rest none so_up so_rest =
    let a : ups ++ [] ≡ all_up = subst (λ (n : ℕ). ups ++ map step_told (up (forest (placed_in (reverse (take n nodes)))) at) ≡ all_up) none so_up in
    let b : reverse others ≡ all_rest = subst (λ (n : ℕ). map step_told (rest test (forest (placed_in (reverse (take n nodes)))) at) ++ reverse others ≡ all_rest) none so_rest in
    ap (λ (l : List Step). l ++ reverse others) (sym (Rattle.std.proofs.lemmas.List.append-nil ups) ∙ a) ∙ ap (λ (l : List Step). all_up ++ l) b
