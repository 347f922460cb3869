-- Operators of different trees have no table in common.
use Rattle.std.proofs.Common.{◌≡◌, ℕ, List, [], ◌∷◌, ◌++◌, true, false, cond, not, inl, inr, refl, sym, ap, ◌∙◌, subst, arith}
use Rattle.std.specs.Prelude.{◌==◌, ◌⊎◌}
use Rattle.std.proofs.lemmas.Bool.{eq-eqb, ne_eqb, eqb-true, cond-true, cond-false}
use Rattle.version_graph.specs.Sets.{In, Each}
use Rattle.version_graph.specs.Edges.{AreEdges, Follows, is_in, numbers}
use Rattle.version_graph.specs.Forest.{Link, forest, link, minus, tables_in, tree}
use Rattle.version_graph.specs.declared.parts.Placed.{Placed}
use Rattle.version_graph.proofs.SetLaws.{each_more, in_append, in_left, in_right}
use Rattle.version_graph.proofs.TableLaws.{in_filter}
use Rattle.version_graph.proofs.WalkLaws.{Fits, IsForest, link_targets}

-- each operator is in the tree of the working set before it, where trees are told apart by numbers
abbrev pub Together : {O : Type 0} → (ℕ → ℕ) → List (Link O) → Type 0
Together root es = Each (λ e. (e.parent ≡ 0) ⊎ (root e.number ≡ root e.parent)) es

-- a table that an operator of the tree r made
abbrev pub MadeIn : {O : Type 0} → (ℕ → ℕ) → List (Link O) → ℕ → ℕ → Type 0
MadeIn root [] r t = ⊥
MadeIn root (e ∷ es) r t = ((root e.number ≡ r) × In t e.targets) ⊎ MadeIn root es r t

-- the empty working set, or one of the tree r
abbrev IsOfTree : (ℕ → ℕ) → ℕ → ℕ → Type 0
IsOfTree root r w = (w ≡ 0) ⊎ (root w ≡ r)

module _ {O : Type 0} (root : ℕ → ℕ) where
  same_here : (es : List (Link O)) (e : Link O) (r w : ℕ) → Fits es e → w ≡ e.number → IsOfTree root r w → root e.number ≡ r
  same_here es e r w fit same (inl none) = let less = fit.newest 0 (inl refl) in absurd (omega arith)
  same_here es e r w fit same (inr own) = ap root (sym same) ∙ own

  parent_too : (e : Link O) (r : ℕ) → ((e.parent ≡ 0) ⊎ (root e.number ≡ root e.parent)) → root e.number ≡ r → IsOfTree root r e.parent
  parent_too e r (inl none) own = inl none
  parent_too e r (inr same) own = inr (sym same ∙ own)

  -- the tables of a working set were made in its tree
  pub tables_in_tree : (es : List (Link O)) → IsForest es → Together root es → (r w : ℕ) → IsOfTree root r w → (n : ℕ) → In n (tables_in es w) → MadeIn root es r n
  tables_in_tree [] forest together r w own n i = i
  tables_in_tree (e ∷ es) forest together r w own n i =
      (elim (w == e.number) as (λ b. (w == e.number) ≡ b → In n (cond b (minus (tables_in es e.parent) e.sources ++ e.targets) (tables_in es w)) → MadeIn root (e ∷ es) r n) [
        | true ↦ λ is j.
            let here = same_here es e r w forest.0 (eqb-true w e.number is) own in
            elim (in_append n (minus (tables_in es e.parent) e.sources) e.targets j) as (λ _. MadeIn root (e ∷ es) r n) [
              | inl k ↦ inr (tables_in_tree es forest.1 together.1 r e.parent (parent_too e r together.0 here) n (in_filter (λ x. not (is_in x e.sources)) n (tables_in es e.parent) k))
              | inr k ↦ inl (here, k)
            ]
        | false ↦ λ is j. inr (tables_in_tree es forest.1 together.1 r w own n j)
      ]) refl i

  -- and so were those of an operator
  pub sources_in_tree : (es : List (Link O)) (f : Link O) → IsForest es → Together root es → In f es → (n : ℕ) → In n f.sources → MadeIn root es (root f.number) n
  sources_in_tree [] f forest together j n i = absurd j
  sources_in_tree (e ∷ es) f forest together (inl same) n i =
      let own : root e.number ≡ root f.number = ap (λ (y : Link O). root y.number) (sym same) in
      inr (tables_in_tree es forest.1 together.1 (root f.number) e.parent (parent_too e (root f.number) together.0 own) n (forest.0.within n (subst (λ (y : Link O). In n y.sources) same i)))
  sources_in_tree (e ∷ es) f forest together (inr j) n i = inr (sources_in_tree es f forest.1 together.1 j n i)

  pub targets_in_tree : (es : List (Link O)) (f : Link O) → In f es → (n : ℕ) → In n f.targets → MadeIn root es (root f.number) n
  targets_in_tree [] f j n i = absurd j
  targets_in_tree (e ∷ es) f (inl same) n i = inl (ap (λ (y : Link O). root y.number) (sym same), subst (λ (y : Link O). In n y.targets) same i)
  targets_in_tree (e ∷ es) f (inr j) n i = inr (targets_in_tree es f j n i)

  in_targets : (es : List (Link O)) (r n : ℕ) → MadeIn root es r n → In n (link_targets es)
  in_targets [] r n m = m
  in_targets (e ∷ es) r n (inl m) = in_left n e.targets (link_targets es) m.1
  in_targets (e ∷ es) r n (inr m) = in_right n e.targets (link_targets es) (in_targets es r n m)

  -- a table is of one tree
  pub one_tree : (es : List (Link O)) → IsForest es → (r q n : ℕ) → MadeIn root es r n → MadeIn root es q n → r ≡ q
  one_tree [] forest r q n a b = absurd a
  one_tree (e ∷ es) forest r q n (inl a) (inl b) = sym a.0 ∙ b.0
  one_tree (e ∷ es) forest r q n (inl a) (inr b) = absurd (forest.0.fresh n a.1 (in_targets es q n b))
  one_tree (e ∷ es) forest r q n (inr a) (inl b) = absurd (forest.0.fresh n b.1 (in_targets es r n a))
  one_tree (e ∷ es) forest r q n (inr a) (inr b) = one_tree es forest.1 r q n a b

-- ---- the tree of an edge is that of its parent

module _ {O : Type 0} where
  older_tree : (e : Placed O) (es : List (Placed O)) → Follows es e → (n : ℕ) → In n (numbers es) → tree (forest (e ∷ es)) n ≡ tree (forest es) n
  older_tree e es follows n i =
      let less = follows.newest n (inr i) in
      cond-false (n == e.number) (cond (e.parent == 0) e.number (tree (forest es) e.parent)) (tree (forest es) n) (ne_eqb n e.number (λ same. omega arith))

  own_tree : (e : Placed O) (es : List (Placed O)) → (e.parent ≡ 0 → ⊥) → tree (forest (e ∷ es)) e.number ≡ tree (forest es) e.parent
  own_tree e es some =
      cond-true (e.number == e.number) (cond (e.parent == 0) e.number (tree (forest es) e.parent)) (tree (forest es) e.number) (eq-eqb e.number e.number refl)
      ∙ cond-false (e.parent == 0) e.number (tree (forest es) e.parent) (ne_eqb e.parent 0 some)

  -- numbers of older edges, of one tree
  abbrev IsPlaced : List (Placed O) → Link O → Type 0
  IsPlaced es f = In f.number (numbers es) × ((f.parent ≡ 0) ⊎ (In f.parent (numbers es) × (tree (forest es) f.number ≡ tree (forest es) f.parent)))

  placed_more : (e : Placed O) (es : List (Placed O)) → Follows es e → (f : Link O) → IsPlaced es f → IsPlaced (e ∷ es) f
  placed_more e es follows f p = (
    inr p.0,
    elim p.1 as (λ _. (f.parent ≡ 0) ⊎ (In f.parent (numbers (e ∷ es)) × (tree (forest (e ∷ es)) f.number ≡ tree (forest (e ∷ es)) f.parent))) [
      | inl none ↦ inl none
      | inr q ↦ inr (inr q.0, older_tree e es follows f.number p.0 ∙ q.1 ∙ sym (older_tree e es follows f.parent q.0))
    ],
  )

  placed_here : (e : Placed O) (es : List (Placed O)) → Follows es e → IsPlaced (e ∷ es) (link es e)
  placed_here e es follows = (
    inl refl,
    (elim (e.parent == 0) as (λ b. (e.parent == 0) ≡ b → (e.parent ≡ 0) ⊎ (In e.parent (numbers (e ∷ es)) × (tree (forest (e ∷ es)) e.number ≡ tree (forest (e ∷ es)) e.parent))) [
      | true ↦ λ is. inl (eqb-true e.parent 0 is)
      | false ↦ λ is.
          let some : e.parent ≡ 0 → ⊥ = λ none. (let clash : true ≡ false = sym (eq-eqb e.parent 0 none) ∙ is in cc) in
          let older : In e.parent (numbers es) = elim follows.placed as (λ _. In e.parent (numbers es)) [ inl none ↦ absurd (some none) | inr k ↦ k ] in
          inr (inr older, own_tree e es some ∙ sym (older_tree e es follows e.parent older))
    ]) refl,
  )

  all_placed : (es : List (Placed O)) → AreEdges es → Each (IsPlaced es) (forest es)
  all_placed [] edges = tt
  all_placed (e ∷ es) edges = (placed_here e es edges.0, each_more (IsPlaced es) (IsPlaced (e ∷ es)) (placed_more e es edges.0) (forest es) (all_placed es edges.1))

  pub trees_together : (es : List (Placed O)) → AreEdges es → Together (tree (forest es)) (forest es)
  trees_together es edges =
      each_more (IsPlaced es) (λ (f : Link O). (f.parent ≡ 0) ⊎ (tree (forest es) f.number ≡ tree (forest es) f.parent))
      (λ f p. elim p.1 as (λ _. (f.parent ≡ 0) ⊎ (tree (forest es) f.number ≡ tree (forest es) f.parent)) [ inl none ↦ inl none | inr q ↦ inr q.1 ]) (forest es) (all_placed es edges)
