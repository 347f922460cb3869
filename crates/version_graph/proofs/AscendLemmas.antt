-- The forward part of a walk ascends.
use Rattle.std.proofs.Common.{◌≡◌, ℕ, ◌<◌, List, [], ◌∷◌, ◌++◌, Bool, true, false, not, cond, refl, sym, ap, ◌∙◌, subst, inl, inr}
use Rattle.std.specs.Prelude.{◌==◌}
use Rattle.std.proofs.lemmas.List.{append-nil, map-append}
use Rattle.std.proofs.lemmas.List.Elements.{filter-append}
use Rattle.version_graph.specs.Sets.{In}
use Rattle.version_graph.specs.Edges.{AreEdges, Rises, numbers}
use Rattle.version_graph.specs.Forest.{Crossing, Link, crossed, crossing, forest, link, rest, tree, up, walk}
use Rattle.version_graph.specs.Laws.{forward_part}
use Rattle.version_graph.specs.declared.parts.Placed.{Placed}
use Rattle.version_graph.proofs.SetLaws.{in_append}

-- one number more behind rising ones
rises_push : (low : ℕ) (ks : List ℕ) (m : ℕ) → Rises low ks → ((n : ℕ) → In n (low ∷ ks) → n < m) → Rises low (ks ++ m ∷ [])
rises_push low [] m rises less = (less low (inl refl), tt)
rises_push low (k ∷ ks) m rises less = (rises.0, rises_push k ks m rises.1 (λ n i. less n (inr i)))

module _ {O : Type 0} where
  -- the way up has nothing that goes forward
  up_back : (fs : List (Link O)) (w : ℕ) → forward_part (up fs w) ≡ []
  up_back [] w = refl
  up_back (e ∷ fs) w =
      elim (w == e.number) as (λ b. forward_part (cond b (crossing true e ∷ up fs e.parent) (up fs w)) ≡ []) [ true ↦ up_back fs e.parent | false ↦ up_back fs w ]

  -- the rest goes forward
  rest_forward : (test : ℕ → Bool) (fs : List (Link O)) (w : ℕ) → forward_part (rest test fs w) ≡ rest test fs w
  rest_forward test [] w = refl
  rest_forward test (e ∷ fs) w =
      elim (w == e.number) as (λ b. forward_part (cond b (rest test fs e.parent) (rest test fs w ++ cond (test e.number) (crossing false e ∷ []) [])) ≡ cond b (rest test fs e.parent) (rest test fs w ++ cond (test e.number) (crossing false e ∷ []) [])) [
        | true ↦ rest_forward test fs e.parent
        | false ↦ elim (test e.number) as (λ c. forward_part (rest test fs w ++ cond c (crossing false e ∷ []) []) ≡ rest test fs w ++ cond c (crossing false e ∷ []) []) [
          | true ↦ filter-append (λ (p : Crossing O). not p.backward) (rest test fs w) (crossing false e ∷ []) ∙ ap (λ (l : List (Crossing O)). l ++ crossing false e ∷ []) (rest_forward test fs w)
          | false ↦ filter-append (λ (p : Crossing O). not p.backward) (rest test fs w) [] ∙ ap (λ (l : List (Crossing O)). l ++ []) (rest_forward test fs w)
        ]
      ]

  -- the rest goes over live operators
  rest_lives : (test : ℕ → Bool) (es : List (Placed O)) (w n : ℕ) → In n (crossed (rest test (forest es) w)) → In n (numbers es)
  rest_lives test [] w n i = i
  rest_lives test (e ∷ es) w n i =
      let f = forest es in
      let M : Bool → Bool → Type 0 = λ b c. In n (crossed (cond b (rest test f e.parent) (rest test f w ++ cond c (crossing false (link es e) ∷ []) []))) → In n (e.number ∷ numbers es) in
      (elim (w == e.number) as (λ b. M b (test e.number)) [
        | true ↦ λ j. inr (rest_lives test es e.parent n j)
        | false ↦ elim (test e.number) as (λ c. M false c) [
          | true ↦ λ j. elim (in_append n (crossed (rest test f w)) (e.number ∷ []) (subst (λ (l : List ℕ). In n l) (map-append (λ (p : Crossing O). p.number) (rest test f w) (crossing false (link es e) ∷ [])) j)) as (λ _. In n (e.number ∷ numbers es)) [
            | inl k ↦ inr (rest_lives test es w n k)
            | inr k ↦ elim k as (λ _. In n (e.number ∷ numbers es)) [ inl same ↦ inl same | inr none ↦ absurd none ]
          ]
          | false ↦ λ j. elim (in_append n (crossed (rest test f w)) [] (subst (λ (l : List ℕ). In n l) (map-append (λ (p : Crossing O). p.number) (rest test f w) []) j)) as (λ _. In n (e.number ∷ numbers es)) [
            | inl k ↦ inr (rest_lives test es w n k)
            | inr k ↦ absurd k
          ]
        ]
      ]) i

  -- the rest rises
  rest_rises : (test : ℕ → Bool) (es : List (Placed O)) → AreEdges es → (w : ℕ) → Rises 0 (crossed (rest test (forest es) w))
  rest_rises test [] edges w = tt
  rest_rises test (e ∷ es) edges w =
      let f = forest es in
      let M : Bool → Bool → Type 0 = λ b c. Rises 0 (crossed (cond b (rest test f e.parent) (rest test f w ++ cond c (crossing false (link es e) ∷ []) []))) in
      elim (w == e.number) as (λ b. M b (test e.number)) [
        | true ↦ rest_rises test es edges.1 e.parent
        | false ↦ elim (test e.number) as (λ c. M false c) [
          | true ↦ subst (λ (l : List ℕ). Rises 0 l) (sym (map-append (λ (p : Crossing O). p.number) (rest test f w) (crossing false (link es e) ∷ [])))
              (rises_push 0 (crossed (rest test f w)) e.number (rest_rises test es edges.1 w) (λ n i. elim i as (λ _. n < e.number) [ inl z ↦ edges.0.newest n (inl z) | inr j ↦ edges.0.newest n (inr (rest_lives test es w n j)) ]))
          | false ↦ subst (λ (l : List (Crossing O)). Rises 0 (crossed l)) (sym (append-nil (rest test f w))) (rest_rises test es edges.1 w)
        ]
      ]

  -- THE FORWARD PART OF A WALK ASCENDS
  pub walk_ascends : (es : List (Placed O)) → AreEdges es → (w : ℕ) → Rises 0 (crossed (forward_part (walk (forest es) w)))
  walk_ascends es edges w =
      let f = forest es in
      let test : ℕ → Bool = λ n. tree f n == tree f w in
      let is : forward_part (walk f w) ≡ rest test f w = filter-append (λ (p : Crossing O). not p.backward) (up f w) (rest test f w) ∙ ap (λ (l : List (Crossing O)). l ++ forward_part (rest test f w)) (up_back f w) ∙ rest_forward test f w in
      subst (λ (l : List (Crossing O)). Rises 0 (crossed l)) (sym is) (rest_rises test es edges w)
