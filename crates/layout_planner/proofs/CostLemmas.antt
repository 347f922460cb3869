-- Costs, table by table and version by version.
use Rattle.std.specs.Prelude.{◌<◌, ◌==◌, ◌||◌, Some, option_to_list, slice_get}
use Rattle.std.specs.Option.{IsSome}
use Rattle.std.specs.Str.{bytes_eq}
use Rattle.std.proofs.Common.{◌≡◌, ℕ, ◌+◌, ◌≤◌, List, [], ◌∷◌, ◌++◌, Bool, true, false, cond, filter, map, length, take, inl, inr, refl, sym, ap, ◌∙◌, subst, arith}
use Rattle.std.proofs.lemmas.Bool.{eq-eqb, eqb-true, false_from_ne_true}
use Rattle.std.proofs.lemmas.List.{length-map, map-append, reverse-reverse, take_all}
use mathlib.Core.List.{reverse}
use Rattle.version_graph.specs.Sets.{In}
use Rattle.version_graph.specs.Edges.{AreEdges, Drawn, IsGraph, Rises, is_in, numbers, set_named, version_sets}
use Rattle.version_graph.specs.Forest.{Crossing, crossed, forest, step_told, tree, walk}
use Rattle.version_graph.specs.declared.parts.Placed.{Placed}
use Rattle.version_graph.specs.declared.parts.Step.{Step}
use Rattle.version_graph.proofs.NameLaws.{name_is}
use Rattle.version_graph.proofs.NodeLaws.{set_listed}
use Rattle.version_graph.proofs.SetLaws.{each_at, in_map, in_of_test, is_in_true, origin}
use Rattle.version_graph.proofs.TreeLaws.{tree_in_walk, walk_in_tree}
use Rattle.version_graph.proofs.WalkStepLaws.{in_reverse}
use Rattle.layout_rules.specs.Lookups.{tables_along}
use Rattle.layout_rules.proofs.PassLaws.{along_both, filter_next, got_in, rises_lower, tables_rise}
use Rattle.layout_planner.specs.Costs.{costs_among, in_tree, tables_of, version_cost}
use Rattle.layout_planner.specs.declared.planning.Plan.{Plan}
use Rattle.layout_planner.specs.declared.planning.TableCount.{TableCount}
use Rattle.layout_planner.specs.declared.planning.VersionCost.{VersionCost}
use Rattle.layout_planner.specs.inner.Plans.{planned, walked_costs}
use Rattle.layout_planner.specs.inner.Walked.{is_walked}
use Rattle.layout_planner.proofs.ListLemmas.{chosen_in, filter_same, no_more, some_in}

-- ---- passes

-- one part more of a filtered list
filter_step : {X : Type 0} (test : X → Bool) (xs : List X) (i : ℕ) → filter test (take i xs) ++ filter test (option_to_list (slice_get xs i)) ≡ filter test (take (i + 1) xs)
filter_step test xs i = filter_next test xs i (filter test (take i xs)) (filter test (take i xs) ++ filter test (option_to_list (slice_get xs i))) (slice_get xs i) refl refl refl

rises_past : (n : ℕ) (ts more : List ℕ) → Rises n (ts ++ more) → Rises n more
rises_past n [] more rise = rise
rises_past n (t ∷ ts) more rise = let less = rise.0 in rises_lower n t more (omega arith) (rises_past t ts more rise.1)

rises_before : (n : ℕ) (ts more fewer : List ℕ) → ((m : ℕ) → Rises m more → Rises m fewer) → Rises n (ts ++ more) → Rises n (ts ++ fewer)
rises_before n [] more fewer still rise = still n rise
rises_before n (t ∷ ts) more fewer still rise = (rise.0, rises_before t ts more fewer still rise.1)

module _ {O : Type 0} where
  pub tables_step : (test : Placed O → Bool) (es : List (Placed O)) (i : ℕ) (so_far more : List ℕ) → so_far ≡ tables_along (filter test (take i es)) → more ≡ so_far ++ tables_along (filter test (option_to_list (slice_get es i))) → more ≡ tables_along (filter test (take (i + 1) es))
  tables_step test es i so_far more done m =
      m ∙ ap (λ (l : List ℕ). l ++ tables_along (filter test (option_to_list (slice_get es i)))) done
      ∙ sym (along_both (filter test (take i es)) (filter test (option_to_list (slice_get es i)))) ∙ ap (λ (l : List (Placed O)). tables_along l) (filter_step test es i)

  pub tables_end : (test : Placed O → Bool) (es : List (Placed O)) (i : ℕ) (so_far : List ℕ) → length es ≤ i → so_far ≡ tables_along (filter test (take i es)) → so_far ≡ tables_along (filter test es)
  tables_end test es i so_far past done = done ∙ ap (λ (l : List (Placed O)). tables_along (filter test l)) (take_all i es past)

  -- the tables of some operators ascend
  rises_chosen : (test : Placed O → Bool) (n : ℕ) (es : List (Placed O)) → Rises n (tables_along es) → Rises n (tables_along (filter test es))
  rises_chosen test n [] rise = rise
  rises_chosen test n (e ∷ es) rise =
      elim (test e) as (λ b. Rises n (tables_along (cond b (e ∷ filter test es) (filter test es)))) [
        | true ↦ rises_before n e.tables (tables_along es) (tables_along (filter test es)) (λ m. rises_chosen test m es) rise
        | false ↦ rises_chosen test n es (rises_past n e.tables (tables_along es) rise)
      ]

  pub tables_rise_among : (es : List (Placed O)) → AreEdges es → (among : ℕ → Bool) → Rises 0 (tables_of es among)
  tables_rise_among es edges among = rises_chosen (λ (e : Placed O). among e.number) 0 (reverse es) (tables_rise es edges)

  module _ (g : Drawn O) (plan : Plan) where
    pub planned_step : (i : ℕ) (so_far more : List VersionCost) → so_far ≡ planned g plan (take i g.versions) → more ≡ so_far ++ planned g plan (option_to_list (slice_get g.versions i)) → more ≡ planned g plan (take (i + 1) g.versions)
    planned_step i so_far more done m =
        let test : List ℕ × ℕ → Bool = λ v. is_walked plan.steps.now v.1 in
        let cost : List ℕ × ℕ → VersionCost = λ v. version_cost g plan.counts.now plan.tables.now v.0 in
        m ∙ ap (λ (l : List VersionCost). l ++ planned g plan (option_to_list (slice_get g.versions i))) done
        ∙ sym (map-append cost (filter test (take i g.versions)) (filter test (option_to_list (slice_get g.versions i)))) ∙ ap (map cost) (filter_step test g.versions i)

    pub planned_end : (i : ℕ) (so_far : List VersionCost) → length g.versions ≤ i → so_far ≡ planned g plan (take i g.versions) → so_far ≡ planned g plan g.versions
    planned_end i so_far past done = done ∙ ap (planned g plan) (take_all i g.versions past)

  -- ---- versions

  length_numbers : (es : List (Placed O)) → length (numbers es) ≡ length es
  length_numbers [] = refl
  length_numbers (e ∷ es) = let rest = length_numbers es in omega (arith, rest)

  -- there are no more versions than operators
  pub versions_few : (g : Drawn O) → IsGraph g → length g.versions ≤ length g.edges
  versions_few g graph =
      let most = no_more (version_sets g.versions) (numbers g.edges) graph.sets_once (λ n i. each_at (λ k. In k (numbers g.edges)) (version_sets g.versions) n i graph.named) in
      let sets = length-map g.versions (λ (v : List ℕ × ℕ). v.1) in
      let many = length_numbers g.edges in
      omega (arith, most, sets, many)

version_known : (versions : List (List ℕ × ℕ)) (v : List ℕ × ℕ) → In v versions → IsSome (set_named versions v.0)
version_known [] v i = absurd i
version_known (u ∷ versions) v (inl same) = rw (name_is v.0 u.0 (ap (λ (x : List ℕ × ℕ). x.0) same)) refl
version_known (u ∷ versions) v (inr i) = elim (bytes_eq v.0 u.0) as (λ b. IsSome (cond b (Some u.1) (set_named versions v.0))) [ true ↦ refl | false ↦ version_known versions v i ]

pub version_at_known : (versions : List (List ℕ × ℕ)) (place set : ℕ) (name : List ℕ) → Some (name, set) ≡ slice_get versions place → IsSome (set_named versions name)
version_at_known versions place set name is = version_known versions (name, set) (got_in versions place (name, set) is)

-- ---- the operators of a walk are those of its tree

steps_crossed : {O : Type 0} (n : ℕ) (ps : List (Crossing O)) → is_walked (map step_told ps) n ≡ is_in n (crossed ps)
steps_crossed n [] = refl
steps_crossed n (p ∷ ps) = ap (λ (b : Bool). (n == p.number) || b) (steps_crossed n ps)

module _ {O : Type 0} (g : Drawn O) (graph : IsGraph g) (w : ℕ) where
  walked_tree : (n : ℕ) → In n (numbers g.edges) → is_walked (map step_told (walk (forest g.edges) w)) n ≡ in_tree g.edges w n
  walked_tree n i = steps_crossed n (walk (forest g.edges) w) ∙ here (is_in n (crossed (walk (forest g.edges) w))) refl
    where
      here : (b : Bool) → is_in n (crossed (walk (forest g.edges) w)) ≡ b → b ≡ in_tree g.edges w n
      here true on = sym (eq-eqb (tree (forest g.edges) n) (tree (forest g.edges) w) (walk_in_tree g.edges graph.edges w n (in_of_test n (crossed (walk (forest g.edges) w)) on)))
      here false out =
          sym (false_from_ne_true (in_tree g.edges w n) (λ same.
          let listed = tree_in_walk g.edges w n i (eqb-true (tree (forest g.edges) n) (tree (forest g.edges) w) same) in
          let clash : true ≡ false = sym (is_in_true n (crossed (walk (forest g.edges) w)) listed) ∙ out in
          cc))

  edge_number : (es : List (Placed O)) (e : Placed O) → In e es → In e.number (numbers es)
  edge_number [] e i = i
  edge_number (x ∷ es) e (inl same) = inl (ap (λ (y : Placed O). y.number) same)
  edge_number (x ∷ es) e (inr i) = inr (edge_number es e i)

  -- tests that agree on operators and named sets give the same costs
  same_tables : (p q : ℕ → Bool) → ((n : ℕ) → In n (numbers g.edges) → p n ≡ q n) → tables_of g.edges p ≡ tables_of g.edges q
  same_tables p q same =
      ap (λ (l : List (Placed O)). tables_along l) (filter_same (λ (e : Placed O). p e.number) (λ (e : Placed O). q e.number) (reverse g.edges)
      (λ e i. same e.number (edge_number g.edges e (subst (λ (l : List (Placed O)). In e l) (reverse-reverse g.edges) (in_reverse e (reverse g.edges) i)))))

  same_versions : (p q : ℕ → Bool) → ((n : ℕ) → In n (numbers g.edges) → p n ≡ q n) → filter (λ (v : List ℕ × ℕ). p v.1) g.versions ≡ filter (λ (v : List ℕ × ℕ). q v.1) g.versions
  same_versions p q same =
      filter_same (λ (v : List ℕ × ℕ). p v.1) (λ (v : List ℕ × ℕ). q v.1) g.versions
      (λ v i. same v.1 (each_at (λ n. In n (numbers g.edges)) (version_sets g.versions) v.1 (in_map (λ (u : List ℕ × ℕ). u.1) v g.versions i) graph.named))

  pub walked_is : (steps : List Step) (ts : List ℕ) (counts : List TableCount) → steps ≡ map step_told (walk (forest g.edges) w) → ts ≡ tables_of g.edges (is_walked steps) → walked_costs g steps ts counts g.versions ≡ costs_among g counts (in_tree g.edges w)
  walked_is steps ts counts all tables =
      let agree : (n : ℕ) → In n (numbers g.edges) → is_walked steps n ≡ in_tree g.edges w n = λ n i. ap (λ (s : List Step). is_walked s n) all ∙ walked_tree n i in
      ap (λ (l : List ℕ). walked_costs g steps l counts g.versions) (tables ∙ same_tables (is_walked steps) (in_tree g.edges w) agree)
      ∙ ap (λ (l : List (List ℕ × ℕ)). map (λ (v : List ℕ × ℕ). version_cost g counts (tables_of g.edges (in_tree g.edges w)) v.0) l) (same_versions (is_walked steps) (in_tree g.edges w) agree)

  -- the version itself is one of its tree
  pub costs_some : (counts : List TableCount) (name : List ℕ) → set_named g.versions name ≡ Some w → 0 < length (costs_among g counts (in_tree g.edges w))
  costs_some counts name is =
      let v = origin (λ (v : List ℕ × ℕ). v.1) w g.versions (set_listed g.versions name w is) in
      let own : in_tree g.edges w v.0.1 ≡ true = ap (in_tree g.edges w) (sym v.2) ∙ eq-eqb (tree (forest g.edges) w) (tree (forest g.edges) w) refl in
      let cost : List ℕ × ℕ → VersionCost = λ u. version_cost g counts (tables_of g.edges (in_tree g.edges w)) u.0 in
      let listed = filter (λ (u : List ℕ × ℕ). in_tree g.edges w u.1) g.versions in
      some_in (cost v.0) (map cost listed) (in_map cost v.0 listed (chosen_in (λ (u : List ℕ × ℕ). in_tree g.edges w u.1) v.0 g.versions v.1 own))
