-- A walk and its tree.
use Rattle.std.proofs.Common.{◌≡◌, ℕ, List, [], ◌∷◌, ◌++◌, Bool, true, false, cond, refl, sym, ap, ◌∙◌, subst, arith, inl, inr}
use Rattle.std.specs.Prelude.{◌==◌, ◌⊎◌}
use Rattle.std.proofs.lemmas.Bool.{eqb-true, eq-eqb, ne_eqb, cond-true, cond-false}
use Rattle.std.proofs.lemmas.List.{map-append}
use Rattle.version_graph.specs.Sets.{In}
use Rattle.version_graph.specs.Edges.{AreEdges, numbers}
use Rattle.version_graph.specs.Forest.{Crossing, crossed, crossing, forest, link, rest, tree, up, walk}
use Rattle.version_graph.specs.Finished.{way}
use Rattle.version_graph.specs.Laws.{HangTogether}
use Rattle.version_graph.specs.declared.parts.Placed.{Placed}
use Rattle.version_graph.proofs.SetLaws.{in_append, in_left, in_right}
use Rattle.version_graph.proofs.NodeLaws.{above_zero}
use Rattle.version_graph.proofs.FinishLemmas.{not_older, way_from, way_lives}

module _ {O : Type 0} where
  in_both : (n : ℕ) (ps qs : List (Crossing O)) → In n (crossed ps ++ crossed qs) → In n (crossed (ps ++ qs))
  in_both n ps qs i = subst (λ (l : List ℕ). In n l) (sym (map-append (λ (p : Crossing O). p.number) ps qs)) i

  in_either : (n : ℕ) (ps qs : List (Crossing O)) → In n (crossed (ps ++ qs)) → In n (crossed ps) ⊎ In n (crossed qs)
  in_either n ps qs i = in_append n (crossed ps) (crossed qs) (subst (λ (l : List ℕ). In n l) (map-append (λ (p : Crossing O). p.number) ps qs) i)

  -- an operator that passes the test is on the way up or among the rest
  up_or_rest : (test : ℕ → Bool) (es : List (Placed O)) (w n : ℕ) → In n (numbers es) → test n ≡ true → In n (crossed (up (forest es) w)) ⊎ In n (crossed (rest test (forest es) w))
  up_or_rest test [] w n i holds = absurd i
  up_or_rest test (e ∷ es) w n i holds =
      let f = forest es in
      let last = cond (test e.number) (crossing false (link es e) ∷ []) [] in
      elim (w == e.number) as (λ b. In n (crossed (cond b (crossing true (link es e) ∷ up f e.parent) (up f w))) ⊎ In n (crossed (cond b (rest test f e.parent) (rest test f w ++ last)))) [
        | true ↦ elim i as (λ _. In n (e.number ∷ crossed (up f e.parent)) ⊎ In n (crossed (rest test f e.parent))) [
          | inl same ↦ inl (inl same)
          | inr j ↦ elim (up_or_rest test es e.parent n j holds) as (λ _. In n (e.number ∷ crossed (up f e.parent)) ⊎ In n (crossed (rest test f e.parent))) [ inl k ↦ inl (inr k) | inr k ↦ inr k ]
        ]
        | false ↦ elim i as (λ _. In n (crossed (up f w)) ⊎ In n (crossed (rest test f w ++ last))) [
          | inl same ↦
              let here : In n (crossed last) = subst (λ (c : Bool). In n (crossed (cond c (crossing false (link es e) ∷ []) []))) (sym (ap test (sym same) ∙ holds)) (inl same) in
              inr (in_both n (rest test f w) last (in_right n (crossed (rest test f w)) (crossed last) here))
          | inr j ↦ elim (up_or_rest test es w n j holds) as (λ _. In n (crossed (up f w)) ⊎ In n (crossed (rest test f w ++ last))) [ inl k ↦ inl k | inr k ↦ inr (in_both n (rest test f w) last (in_left n (crossed (rest test f w)) (crossed last) k)) ]
        ]
      ]

  -- the rest passes the test
  rest_passes : (test : ℕ → Bool) (es : List (Placed O)) (w n : ℕ) → In n (crossed (rest test (forest es) w)) → test n ≡ true
  rest_passes test [] w n i = absurd i
  rest_passes test (e ∷ es) w n i =
      let f = forest es in
      (elim (w == e.number) as (λ b. In n (crossed (cond b (rest test f e.parent) (rest test f w ++ cond (test e.number) (crossing false (link es e) ∷ []) []))) → test n ≡ true) [
        | true ↦ λ j. rest_passes test es e.parent n j
        | false ↦ λ j. elim (in_either n (rest test f w) (cond (test e.number) (crossing false (link es e) ∷ []) []) j) as (λ _. test n ≡ true) [
          | inl k ↦ rest_passes test es w n k
          | inr k ↦ (elim (test e.number) as (λ c. test e.number ≡ c → In n (crossed (cond c (crossing false (link es e) ∷ []) [])) → test n ≡ true) [
            | true ↦ λ is l. elim l as (λ _. test n ≡ true) [ inl same ↦ ap test same ∙ is | inr m ↦ absurd m ]
            | false ↦ λ is l. absurd l
          ]) refl k
        ]
      ]) i

  older_tree : (e : Placed O) (es : List (Placed O)) (n : ℕ) → AreEdges (e ∷ es) → In n (numbers es) → tree (forest (e ∷ es)) n ≡ tree (forest es) n
  older_tree e es n edges i = cond-false (n == e.number) (cond (e.parent == 0) e.number (tree (forest es) e.parent)) (tree (forest es) n) (ne_eqb n e.number (λ same. not_older e es edges (subst (λ (k : ℕ). In k (numbers es)) same i)))

  -- the way up stays in the tree
  up_in_tree : (es : List (Placed O)) → AreEdges es → (w n : ℕ) → In n (crossed (up (forest es) w)) → tree (forest es) n ≡ tree (forest es) w
  up_in_tree [] edges w n i = absurd i
  up_in_tree (e ∷ es) edges w n i =
      let f = forest es in
      (elim (w == e.number) as (λ b. (w == e.number) ≡ b → In n (crossed (cond b (crossing true (link es e) ∷ up f e.parent) (up f w))) → tree (forest (e ∷ es)) n ≡ tree (forest (e ∷ es)) w) [
        | true ↦ λ is j.
            let at = eqb-true w e.number is in
            elim j as (λ _. tree (forest (e ∷ es)) n ≡ tree (forest (e ∷ es)) w) [
              | inl same ↦ ap (λ (k : ℕ). tree (forest (e ∷ es)) k) (same ∙ sym at)
              | inr k ↦
                  let more = above_zero es edges.1 e.parent (way_from es e.parent n k) in
                  let root = cond-false (e.parent == 0) e.number (tree f e.parent) (ne_eqb e.parent 0 (λ z. omega arith)) in
                  let here = cond-true (w == e.number) (cond (e.parent == 0) e.number (tree f e.parent)) (tree f w) is in
                  older_tree e es n edges (way_lives es e.parent n k) ∙ up_in_tree es edges.1 e.parent n k ∙ sym root ∙ sym here
            ]
        | false ↦ λ is j.
            older_tree e es n edges (way_lives es w n j) ∙ up_in_tree es edges.1 w n j ∙ sym (older_tree e es w edges (way_from es w n j))
      ]) refl i

  -- the oldest edge of a tree stands on each way of it
  tree_in_way : (es : List (Placed O)) → AreEdges es → (w : ℕ) → In w (numbers es) → In (tree (forest es) w) (way es w)
  tree_in_way [] edges w i = absurd i
  tree_in_way (e ∷ es) edges w i =
      let f = forest es in
      (elim (w == e.number) as (λ b. (w == e.number) ≡ b → In (cond b (cond (e.parent == 0) e.number (tree f e.parent)) (tree f w)) (crossed (cond b (crossing true (link es e) ∷ up f e.parent) (up f w)))) [
        | true ↦ λ is. (elim (e.parent == 0) as (λ c. (e.parent == 0) ≡ c → In (cond c e.number (tree f e.parent)) (e.number ∷ way es e.parent)) [
          | true ↦ λ none. inl refl
          | false ↦ λ some. elim edges.0.placed as (λ _. In (tree f e.parent) (e.number ∷ way es e.parent)) [
            | inl z ↦
                let clash : true ≡ false = sym (eq-eqb e.parent 0 z) ∙ some in
                cc
            | inr j ↦ inr (tree_in_way es edges.1 e.parent j)
          ]
        ]) refl
        | false ↦ λ other. elim i as (λ _. In (tree f w) (way es w)) [
          | inl same ↦
              let clash : true ≡ false = sym (eq-eqb w e.number same) ∙ other in
              cc
          | inr j ↦ tree_in_way es edges.1 w j
        ]
      ]) refl

  -- A TREE IS WHAT HANGS TOGETHER BY WAYS UP
  pub hangs_together : (es : List (Placed O)) → AreEdges es → (v w : ℕ) → In v (numbers es) → In w (numbers es) → tree (forest es) v ≡ tree (forest es) w → HangTogether es v w
  hangs_together es edges v w i j same =
      (tree (forest es) v, tree_in_way es edges v i, subst (λ (n : ℕ). In n (way es w)) (sym same) (tree_in_way es edges w j))

  pub together_in_tree : (es : List (Placed O)) → AreEdges es → (v w : ℕ) → HangTogether es v w → tree (forest es) v ≡ tree (forest es) w
  together_in_tree es edges v w h = sym (up_in_tree es edges v h.0 h.1) ∙ up_in_tree es edges w h.0 h.2

  -- A WALK CROSSES ITS OWN TREE AND NO OTHER
  pub walk_in_tree : (es : List (Placed O)) → AreEdges es → (w n : ℕ) → In n (crossed (walk (forest es) w)) → tree (forest es) n ≡ tree (forest es) w
  walk_in_tree es edges w n i =
      let test : ℕ → Bool = λ k. tree (forest es) k == tree (forest es) w in
      elim (in_either n (up (forest es) w) (rest test (forest es) w) i) as (λ _. tree (forest es) n ≡ tree (forest es) w) [
        | inl j ↦ up_in_tree es edges w n j
        | inr j ↦ eqb-true (tree (forest es) n) (tree (forest es) w) (rest_passes test es w n j)
      ]

  pub tree_in_walk : (es : List (Placed O)) (w n : ℕ) → In n (numbers es) → tree (forest es) n ≡ tree (forest es) w → In n (crossed (walk (forest es) w))
  tree_in_walk es w n i same =
      let test : ℕ → Bool = λ k. tree (forest es) k == tree (forest es) w in
      let ups = up (forest es) w in
      let others = rest test (forest es) w in
      elim (up_or_rest test es w n i (eq-eqb (tree (forest es) n) (tree (forest es) w) same)) as (λ _. In n (crossed (ups ++ others))) [
        | inl j ↦ in_both n ups others (in_left n (crossed ups) (crossed others) j)
        | inr j ↦ in_both n ups others (in_right n (crossed ups) (crossed others) j)
      ]
