-- The layout from one graph to the next.
use Rattle.std.specs.Prelude.{◌<◌, ◌≤◌, ◌&&◌, ◌⊎◌, nat_lt}
use Rattle.std.proofs.Common.{◌≡◌, ℕ, ◌+◌, List, [], ◌∷◌, ◌++◌, Bool, true, false, cond, filter, length, inl, inr, refl, sym, ap, ◌∙◌, subst, arith}
use Rattle.std.proofs.lemmas.Bool.{and_from, and_parts, cond-true, le-ltb, lt-ltb, ltb-true}
use Rattle.std.proofs.lemmas.List.{append-nil}
use Rattle.version_graph.specs.Sets.{In}
use Rattle.version_graph.specs.Edges.{AreEdges, Drawn, IsGraph, is_in, numbers, version_sets}
use Rattle.version_graph.specs.Evolve.{evolved, grown, placed_next}
use Rattle.version_graph.specs.Dropped.{dropped, other_versions}
use Rattle.version_graph.specs.Forest.{Link, forest, link}
use Rattle.version_graph.specs.declared.parts.Edge.{Edge}
use Rattle.version_graph.specs.declared.parts.Placed.{Placed}
use Rattle.version_graph.proofs.SetLaws.{each_at, in_append, in_left, in_of_test, in_right, is_in_true}
use Rattle.version_graph.proofs.TableLaws.{in_filter, passes}
use Rattle.version_graph.proofs.StayLaws.{fewer_numbers}
use Rattle.layout_rules.specs.Layouts.{IsCreate, IsValid}
use Rattle.layout_rules.specs.Changes.{IsNewCreate, creates_above, creates_next, dropped_layout, evolved_layout, is_empty, layout_after}
use Rattle.layout_rules.proofs.ChangeLaws.{a_name, filter_in, joined, link_number, no_name}

-- a list whose items all pass stays
all_pass : (test : ℕ → Bool) (ns : List ℕ) → ((n : ℕ) → In n ns → test n ≡ true) → filter test ns ≡ ns
all_pass test [] h = refl
all_pass test (n ∷ ns) h = cond-true (test n) (n ∷ filter test ns) (filter test ns) (h n (inl refl)) ∙ ap (λ (l : List ℕ). n ∷ l) (all_pass test ns (λ k i. h k (inr i)))

module _ {O : Type 0} where
  -- no operator is above a number that none passes
  none_above : (last : ℕ) (es : List (Placed O)) → ((n : ℕ) → In n (numbers es) → n ≤ last) → creates_above last es ≡ []
  none_above last [] h = refl
  none_above last (e ∷ es) h =
      let off : nat_lt last e.number ≡ false = le-ltb last e.number (h e.number (inl refl)) in
      ap (λ (b : Bool). creates_above last es ++ cond (b && is_empty e.edge.sources) (e.number ∷ []) []) off
      ∙ append-nil (creates_above last es) ∙ none_above last es (λ n i. h n (inr i))

  grown_above : (edges : List (Edge O)) (last : ℕ) (es : List (Placed O)) (p o t : ℕ) → last ≤ o → creates_above last (grown es p o t edges) ≡ creates_above last es ++ creates_next o edges
  grown_above [] last es p o t less = sym (append-nil (creates_above last es))
  grown_above (e ∷ edges) last es p o t less =
      let on : nat_lt last (o + 1) ≡ true = lt-ltb last (o + 1) (omega (arith, less)) in
      grown_above edges last (placed_next p o t e ∷ es) (o + 1) (o + 1) (t + length e.targets) (omega (arith, less))
      ∙ ap (λ (b : Bool). (creates_above last es ++ cond (b && is_empty e.sources) ((o + 1) ∷ []) []) ++ creates_next (o + 1) edges) on
      ∙ joined (creates_above last es) (creates_next (o + 1) edges) (o + 1) (is_empty e.sources)

  still_numbered : (edges : List (Edge O)) (es : List (Placed O)) (p o t n : ℕ) → In n (numbers es) → In n (numbers (grown es p o t edges))
  still_numbered [] es p o t n i = i
  still_numbered (e ∷ edges) es p o t n i = still_numbered edges (placed_next p o t e ∷ es) (o + 1) (o + 1) (t + length e.targets) n (inr i)

  live_number : (es : List (Placed O)) (layout : List ℕ) → IsValid (forest es) layout → (n : ℕ) → In n layout → In n (numbers es)
  live_number es layout valid n i = let l = valid.live n i in subst (λ (k : ℕ). In k (numbers es)) (sym l.2) (link_number es l.0 l.1)

  -- ---- what the layout after a statement has

  abbrev NewAbove : ℕ → List (Placed O) → ℕ → Type 0
  NewAbove last es n = (e : Link O) × In e (forest es) × (n ≡ e.number) × IsCreate e × (last < n)

  above_told : (last : ℕ) (es : List (Placed O)) (n : ℕ) → In n (creates_above last es) → NewAbove last es n
  above_told last [] n i = absurd i
  above_told last (e ∷ es) n i =
      let test = nat_lt last e.number && is_empty e.edge.sources in
      elim (in_append n (creates_above last es) (cond test (e.number ∷ []) []) i) as (λ _. NewAbove last (e ∷ es) n) [
        | inl j ↦ (let m = above_told last es n j in (m.0, inr m.1, m.2, m.3, m.4))
        | inr j ↦ (elim test as (λ b. test ≡ b → In n (cond b (e.number ∷ []) []) → NewAbove last (e ∷ es) n) [
          | true ↦ λ is k. elim k as (λ _. NewAbove last (e ∷ es) n) [
            | inl same ↦
                let p = and_parts (nat_lt last e.number) (is_empty e.edge.sources) is in
                (link es e, inl refl, same, no_name es e e.edge.sources refl p.1, subst (λ (m : ℕ). last < m) (sym same) (ltb-true last e.number p.0))
            | inr none ↦ absurd none
          ]
          | false ↦ λ is k. absurd k
        ]) refl j
      ]

  above_there : (last : ℕ) (es : List (Placed O)) → AreEdges es → (n : ℕ) (e : Link O) → In e (forest es) → n ≡ e.number → IsCreate e → last < n → In n (creates_above last es)
  above_there last [] edges n e i is create less = absurd i
  above_there last (x ∷ es) edges n e (inl same) is create less =
      let here : n ≡ x.number = is ∙ ap (λ (y : Link O). y.number) same in
      let none : is_empty x.edge.sources ≡ true =
      (elim (is_empty x.edge.sources) as (λ b. is_empty x.edge.sources ≡ b → b ≡ true) [
        | true ↦ λ h. refl
        | false ↦ λ h. absurd (a_name es x x.edge.sources edges.0 refl h (subst (λ (y : Link O). IsCreate y) same create))
      ]) refl in
      let on = and_from (nat_lt last x.number) (is_empty x.edge.sources) (lt-ltb last x.number (subst (λ (m : ℕ). last < m) here less)) none in
      in_right n (creates_above last es) (cond (nat_lt last x.number && is_empty x.edge.sources) (x.number ∷ []) []) (subst (λ (b : Bool). In n (cond b (x.number ∷ []) [])) (sym on) (inl here))
  above_there last (x ∷ es) edges n e (inr i) is create less =
      in_left n (creates_above last es) (cond (nat_lt last x.number && is_empty x.edge.sources) (x.number ∷ []) []) (above_there last es edges.1 n e i is create less)

  -- WHAT THE LAYOUT AFTER A STATEMENT HAS
  pub follows_from : (layout : List ℕ) (old new : Drawn O) → AreEdges new.edges → (n : ℕ) → In n (layout_after layout old new) → (In n layout × In n (numbers new.edges)) ⊎ IsNewCreate old new n
  follows_from layout old new edges n i =
      let test : ℕ → Bool = λ m. is_in m (numbers new.edges) in
      elim (in_append n (filter test layout) (creates_above old.last_operator new.edges) i) as (λ _. (In n layout × In n (numbers new.edges)) ⊎ IsNewCreate old new n) [
        | inl j ↦ inl (in_filter test n layout j, in_of_test n (numbers new.edges) (passes test n layout j))
        | inr j ↦ inr (above_told old.last_operator new.edges n j)
      ]

  pub follows_to : (layout : List ℕ) (old new : Drawn O) → AreEdges new.edges → (n : ℕ) → (In n layout × In n (numbers new.edges)) ⊎ IsNewCreate old new n → In n (layout_after layout old new)
  follows_to layout old new edges n (inl h) =
      let test : ℕ → Bool = λ m. is_in m (numbers new.edges) in
      in_left n (filter test layout) (creates_above old.last_operator new.edges) (filter_in test n layout h.0 (is_in_true n (numbers new.edges) h.1))
  follows_to layout old new edges n (inr h) =
      let test : ℕ → Bool = λ m. is_in m (numbers new.edges) in
      in_right n (filter test layout) (creates_above old.last_operator new.edges) (above_there old.last_operator new.edges edges n h.0 h.1 h.2 h.3 h.4)

  module _ (g : Drawn O) (graph : IsGraph g) (layout : List ℕ) where
    numbered : (n : ℕ) → In n (numbers g.edges) → n ≤ g.last_operator
    numbered n i = each_at (λ n. n ≤ g.last_operator) (numbers g.edges) n i graph.operators

    -- a graph that stays
    pub same_layout : IsValid (forest g.edges) layout → layout_after layout g g ≡ layout
    same_layout valid =
        ap (λ (l : List ℕ). l ++ creates_above g.last_operator g.edges) (all_pass (λ n. is_in n (numbers g.edges)) layout (λ n i. is_in_true n (numbers g.edges) (live_number g.edges layout valid n i)))
        ∙ ap (λ (l : List ℕ). layout ++ l) (none_above g.last_operator g.edges numbered) ∙ append-nil layout

    -- an evolution
    pub layout_evolved : (name : List ℕ) (w : ℕ) (edges : List (Edge O)) → IsValid (forest g.edges) layout → layout_after layout g (evolved g name w edges) ≡ evolved_layout g edges layout
    layout_evolved name w edges valid =
        let new = (evolved g name w edges).edges in
        ap (λ (l : List ℕ). l ++ creates_above g.last_operator new) (all_pass (λ n. is_in n (numbers new)) layout (λ n i. is_in_true n (numbers new) (still_numbered edges g.edges w g.last_operator g.last_table n (live_number g.edges layout valid n i))))
        ∙ ap (λ (l : List ℕ). layout ++ l) (grown_above edges g.last_operator g.edges w g.last_operator g.last_table (omega arith) ∙ ap (λ (l : List ℕ). l ++ creates_next g.last_operator edges) (none_above g.last_operator g.edges numbered))

    -- a drop
    pub layout_dropped : (name : List ℕ) → layout_after layout g (dropped g name) ≡ dropped_layout g name layout
    layout_dropped name =
        let less = dropped_layout g name layout in
        ap (λ (l : List ℕ). less ++ l) (none_above g.last_operator (dropped g name).edges (λ n i. numbered n (fewer_numbers g.edges (version_sets (other_versions g.versions name)) n i))) ∙ append-nil less
