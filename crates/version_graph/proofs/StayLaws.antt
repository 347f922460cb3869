-- What stays after a drop is a graph.
use Rattle.std.proofs.Common.{◌≡◌, ℕ, suc, ◌<◌, ◌≤◌, List, [], ◌∷◌, Bool, true, false, cond, refl, sym, ap, ◌∙◌, subst, map, length, arith, inl, inr}
use Rattle.std.specs.Prelude.{◌==◌}
use Rattle.std.specs.Map.{remove_entry}
use Rattle.std.specs.Str.{bytes_eq}
use Rattle.std.proofs.lemmas.Bool.{eqb-true}
use mathlib.Core.List.{reverse}
use Rattle.version_graph.specs.Sets.{In, Within, Distinct}
use Rattle.version_graph.specs.Tables.{TableVersion, table_numbers, headings_of, FitsSet}
use Rattle.version_graph.specs.Edges.{Drawn, AreEdges, IsGraph, numbers, working, set_after, made, made_by_edge, is_in, version_sets}
use Rattle.version_graph.specs.Forest.{forest, tree}
use Rattle.version_graph.specs.Dropped.{staying, dropped, other_versions}
use Rattle.version_graph.specs.Kept.{placed_in, AreRight, IsRight, staying_nodes}
use Rattle.version_graph.specs.declared.parts.Placed.{Placed}
use Rattle.version_graph.specs.declared.node.Node.{Node}
use Rattle.version_graph.proofs.SetLaws.{each_at, each_of, in_map, origin, in_append, in_left, in_right, is_in_true}

module _ {O : Type 0} where
  -- a needed working set is as it was
  set_one : (e : Placed O) (es : List (Placed O)) (needed : List ℕ) (w : ℕ) (b c : Bool) → (w == e.number) ≡ b → is_in e.number needed ≡ c → In w needed → ((v : ℕ) (more : List ℕ) → In v more → working (staying more es) v ≡ working es v)
      → working (cond c (e ∷ staying (e.parent ∷ needed) es) (staying needed es)) w ≡ cond b (set_after (working es e.parent) e) (working es w)
  set_one e es needed w true true is kept i more =
      ap (λ (t : Bool). cond t (set_after (working (staying (e.parent ∷ needed) es) e.parent) e) (working (staying (e.parent ∷ needed) es) w)) is ∙ ap (λ (s : List TableVersion). set_after s e) (more e.parent (e.parent ∷ needed) (inl refl))
  set_one e es needed w false true is kept i more =
      ap (λ (t : Bool). cond t (set_after (working (staying (e.parent ∷ needed) es) e.parent) e) (working (staying (e.parent ∷ needed) es) w)) is ∙ more w (e.parent ∷ needed) (inr i)
  set_one e es needed w true false is kept i more =
      let clash : true ≡ false = sym (is_in_true e.number needed (subst (λ (n : ℕ). In n needed) (eqb-true w e.number is) i)) ∙ kept in
      cc
  set_one e es needed w false false is kept i more = more w needed i

  pub working_stays : (es : List (Placed O)) (w : ℕ) (needed : List ℕ) → In w needed → working (staying needed es) w ≡ working es w
  working_stays [] w needed i = refl
  working_stays (e ∷ es) w needed i = set_one e es needed w (w == e.number) (is_in e.number needed) refl refl i (λ v more j. working_stays es v more j)

  tree_one : (e : Placed O) (es : List (Placed O)) (needed : List ℕ) (w : ℕ) (b c : Bool) → (w == e.number) ≡ b → is_in e.number needed ≡ c → In w needed → ((v : ℕ) (more : List ℕ) → In v more → tree (forest (staying more es)) v ≡ tree (forest es) v)
      → tree (forest (cond c (e ∷ staying (e.parent ∷ needed) es) (staying needed es))) w ≡ cond b (cond (e.parent == 0) e.number (tree (forest es) e.parent)) (tree (forest es) w)
  tree_one e es needed w true true is kept i more =
      ap (λ (t : Bool). cond t (cond (e.parent == 0) e.number (tree (forest (staying (e.parent ∷ needed) es)) e.parent)) (tree (forest (staying (e.parent ∷ needed) es)) w)) is ∙ ap (λ (n : ℕ). cond (e.parent == 0) e.number n) (more e.parent (e.parent ∷ needed) (inl refl))
  tree_one e es needed w false true is kept i more =
      ap (λ (t : Bool). cond t (cond (e.parent == 0) e.number (tree (forest (staying (e.parent ∷ needed) es)) e.parent)) (tree (forest (staying (e.parent ∷ needed) es)) w)) is ∙ more w (e.parent ∷ needed) (inr i)
  tree_one e es needed w true false is kept i more =
      let clash : true ≡ false = sym (is_in_true e.number needed (subst (λ (n : ℕ). In n needed) (eqb-true w e.number is) i)) ∙ kept in
      cc
  tree_one e es needed w false false is kept i more = more w needed i

  pub tree_stays : (es : List (Placed O)) (w : ℕ) (needed : List ℕ) → In w needed → tree (forest (staying needed es)) w ≡ tree (forest es) w
  tree_stays [] w needed i = refl
  tree_stays (e ∷ es) w needed i = tree_one e es needed w (w == e.number) (is_in e.number needed) refl refl i (λ v more j. tree_stays es v more j)

  -- ---- numbers

  number_one : (e : Placed O) (es : List (Placed O)) (needed : List ℕ) (n : ℕ) (c : Bool) → is_in e.number needed ≡ c → In n needed → In n (numbers (e ∷ es)) → ((more : List ℕ) → In n more → In n (numbers es) → In n (numbers (staying more es))) → In n (numbers (cond c (e ∷ staying (e.parent ∷ needed) es) (staying needed es)))
  number_one e es needed n true kept i (inl same) more = inl same
  number_one e es needed n true kept i (inr j) more = inr (more (e.parent ∷ needed) (inr i) j)
  number_one e es needed n false kept i (inl same) more =
      let clash : true ≡ false = sym (is_in_true e.number needed (subst (λ (k : ℕ). In k needed) same i)) ∙ kept in
      cc
  number_one e es needed n false kept i (inr j) more = more needed i j

  -- a needed number stays
  pub number_stays : (es : List (Placed O)) (n : ℕ) (needed : List ℕ) → In n needed → In n (numbers es) → In n (numbers (staying needed es))
  number_stays [] n needed i j = j
  number_stays (e ∷ es) n needed i j = number_one e es needed n (is_in e.number needed) refl i j (λ more k l. number_stays es n more k l)

  pub fewer_numbers : (es : List (Placed O)) (needed : List ℕ) → Within (numbers (staying needed es)) (numbers es)
  fewer_numbers [] needed n i = i
  fewer_numbers (e ∷ es) needed n i =
      (elim (is_in e.number needed) as (λ c. In n (numbers (cond c (e ∷ staying (e.parent ∷ needed) es) (staying needed es))) → In n (numbers (e ∷ es))) [
        | true ↦ λ j. elim j as (λ _. In n (numbers (e ∷ es))) [ inl same ↦ inl same | inr k ↦ inr (fewer_numbers es (e.parent ∷ needed) n k) ]
        | false ↦ λ j. inr (fewer_numbers es needed n j)
      ]) i

  pub fewer_made : (es : List (Placed O)) (needed : List ℕ) → Within (made (staying needed es)) (made es)
  fewer_made [] needed v i = i
  fewer_made (e ∷ es) needed v i =
      (elim (is_in e.number needed) as (λ c. In v (made (cond c (e ∷ staying (e.parent ∷ needed) es) (staying needed es))) → In v (made (e ∷ es))) [
        | true ↦ λ j. elim (in_append v (made_by_edge e) (made (staying (e.parent ∷ needed) es)) j) as (λ _. In v (made (e ∷ es))) [ inl k ↦ in_left v (made_by_edge e) (made es) k | inr k ↦ in_right v (made_by_edge e) (made es) (fewer_made es (e.parent ∷ needed) v k) ]
        | false ↦ λ j. in_right v (made_by_edge e) (made es) (fewer_made es needed v j)
      ]) i

  pub fewer_tables : (es : List (Placed O)) (needed : List ℕ) → Within (table_numbers (made (staying needed es))) (table_numbers (made es))
  fewer_tables es needed t i =
      let o = origin (λ (v : TableVersion). v.number) t (made (staying needed es)) i in
      subst (λ (n : ℕ). In n (table_numbers (made es))) (sym o.2) (in_map (λ (v : TableVersion). v.number) o.0 (made es) (fewer_made es needed o.0 o.1))

  pub fewer : (es : List (Placed O)) (needed : List ℕ) → length (staying needed es) ≤ length es
  fewer [] needed = omega arith
  fewer (e ∷ es) needed =
      elim (is_in e.number needed) as (λ c. length (cond c (e ∷ staying (e.parent ∷ needed) es) (staying needed es)) ≤ suc (length es)) [
        | true ↦ omega (arith, fewer es (e.parent ∷ needed))
        | false ↦ omega (arith, fewer es needed)
      ]

  -- ---- edges and nodes

  pub edges_stay : (es : List (Placed O)) (needed : List ℕ) → AreEdges es → AreEdges (staying needed es)
  edges_stay [] needed edges = tt
  edges_stay (e ∷ es) needed edges =
      let rest = staying (e.parent ∷ needed) es in
      let f = edges.0 in
      elim (is_in e.number needed) as (λ c. AreEdges (cond c (e ∷ staying (e.parent ∷ needed) es) (staying needed es))) [
        | true ↦ (
          record {
            newest = λ n i. elim i as (λ _. n < e.number) [ inl z ↦ f.newest n (inl z) | inr j ↦ f.newest n (inr (fewer_numbers es (e.parent ∷ needed) n j)) ];
            placed = elim f.placed as (λ _. In e.parent (0 ∷ numbers rest)) [ inl z ↦ inl z | inr j ↦ inr (number_stays es e.parent (e.parent ∷ needed) (inl refl) j) ];
            fits = subst (λ (s : List TableVersion). FitsSet (headings_of s) e.edge) (sym (working_stays es e.parent (e.parent ∷ needed) (inl refl))) f.fits;
            counted = f.counted;
            rising = f.rising;
            above = λ n t i j. f.above n t (fewer_tables es (e.parent ∷ needed) n i) j;
          },
          edges_stay es (e.parent ∷ needed) edges.1,
        )
        | false ↦ edges_stay es needed edges.1
      ]

  pub placed_stay : (ns : List (Node O)) (needed : List ℕ) → placed_in (staying_nodes needed ns) ≡ staying needed (placed_in ns)
  placed_stay [] needed = refl
  placed_stay (k ∷ ns) needed =
      elim (is_in k.placed.number needed) as (λ c. placed_in (cond c (k ∷ staying_nodes (k.placed.parent ∷ needed) ns) (staying_nodes needed ns)) ≡ cond c (k.placed ∷ staying (k.placed.parent ∷ needed) (placed_in ns)) (staying needed (placed_in ns))) [
        | true ↦ ap (λ (l : List (Placed O)). k.placed ∷ l) (placed_stay ns (k.placed.parent ∷ needed))
        | false ↦ placed_stay ns needed
      ]

  right_stays : (es : List (Placed O)) (k : Node O) (needed : List ℕ) → IsRight es k → IsRight (staying (k.placed.parent ∷ needed) es) k
  right_stays es k needed r =
      let same = working_stays es k.placed.parent (k.placed.parent ∷ needed) (inl refl) in
      record {
        sources = r.sources ∙ ap (λ (s : List TableVersion). table_numbers (Rattle.version_graph.specs.Tables.taken s k.placed.edge.sources)) (sym same);
        set = r.set ∙ ap (λ (s : List TableVersion). table_numbers (set_after s k.placed)) (sym same);
        tree = r.tree ∙ ap (λ (n : ℕ). cond (k.placed.parent == 0) k.placed.number n) (sym (tree_stays es k.placed.parent (k.placed.parent ∷ needed) (inl refl)));
      }

  pub nodes_stay : (ns : List (Node O)) (needed : List ℕ) → AreRight ns → AreRight (staying_nodes needed ns)
  nodes_stay [] needed right = tt
  nodes_stay (k ∷ ns) needed right =
      elim (is_in k.placed.number needed) as (λ c. AreRight (cond c (k ∷ staying_nodes (k.placed.parent ∷ needed) ns) (staying_nodes needed ns))) [
        | true ↦ (subst (λ (es : List (Placed O)). IsRight es k) (sym (placed_stay ns (k.placed.parent ∷ needed))) (right_stays (placed_in ns) k needed right.0), nodes_stay ns (k.placed.parent ∷ needed) right.1)
        | false ↦ nodes_stay ns needed right.1
      ]

-- ---- versions

pub in_others : {K : Type 0} (test : K → Bool) (v : K × ℕ) (es : List (K × ℕ)) → In v (remove_entry test es) → In v es
in_others test v [] i = i
in_others {K} test v (e ∷ es) i =
    (elim (test e.0) as (λ c. In v (cond c es (e ∷ remove_entry test es)) → In v (e ∷ es)) [
      | true ↦ λ j. inr j
      | false ↦ λ j. elim j as (λ _. In v (e ∷ es)) [ inl same ↦ inl same | inr k ↦ inr (in_others test v es k) ]
    ]) i

pub others_once : {K Y : Type 0} (f : K × ℕ → Y) (test : K → Bool) (es : List (K × ℕ)) → Distinct (map f es) → Distinct (map f (remove_entry test es))
others_once f test [] d = d
others_once {K} {Y} f test (e ∷ es) d =
    elim (test e.0) as (λ c. Distinct (map f (cond c es (e ∷ remove_entry test es)))) [
      | true ↦ d.1
      | false ↦ ((λ i. let o = origin f (f e) (remove_entry test es) i in d.0 (subst (λ (y : Y). In y (map f es)) (sym o.2) (in_map f o.0 es (in_others test o.0 es o.1)))), others_once f test es d.1)
    ]

-- A DROP LEAVES A GRAPH
pub dropped_graph : {O : Type 0} (g : Drawn O) (name : List ℕ) → IsGraph g → IsGraph (dropped g name)
dropped_graph {O} g name graph =
    let left = other_versions g.versions name in
    let sets = version_sets left in
    let set = λ (v : List ℕ × ℕ). v.1 in
    let few = graph.few in
    record {
      edges = edges_stay g.edges sets graph.edges;
      few = omega (arith, fewer g.edges sets);
      operators = each_of (λ n. n ≤ g.last_operator) (numbers (staying sets g.edges)) (λ n i. each_at (λ k. k ≤ g.last_operator) (numbers g.edges) n (fewer_numbers g.edges sets n i) graph.operators);
      tables = each_of (λ t. t ≤ g.last_table) (table_numbers (made (staying sets g.edges))) (λ t i. each_at (λ k. k ≤ g.last_table) (table_numbers (made g.edges)) t (fewer_tables g.edges sets t i) graph.tables);
      named = each_of (λ n. In n (numbers (staying sets g.edges))) sets (λ n i.
          let o = origin set n left i in
          let old : In n (version_sets g.versions) = subst (λ (k : ℕ). In k (version_sets g.versions)) (sym o.2) (in_map set o.0 g.versions (in_others (bytes_eq name) o.0 g.versions o.1)) in
          number_stays g.edges n sets i (each_at (λ k. In k (numbers g.edges)) (version_sets g.versions) n old graph.named));
      names_once = others_once (λ (v : List ℕ × ℕ). v.0) (bytes_eq name) g.versions graph.names_once;
      sets_once = others_once set (bytes_eq name) g.versions graph.sets_once;
    }

pub dropped_is : {O : Type 0} (es fs : List (Placed O)) (vs ws : List (List ℕ × ℕ)) (o t : ℕ) → es ≡ fs → vs ≡ ws → Rattle.version_graph.proofs.EvolveLaws.drawing es vs o t ≡ Rattle.version_graph.proofs.EvolveLaws.drawing fs ws o t
dropped_is es fs vs ws o t a b = λ j. Rattle.version_graph.proofs.EvolveLaws.drawing (a j) (b j) o t

pub stays_as : {O : Type 0} (old new : List (Node O)) (vs ws : List (List ℕ × ℕ)) → reverse new ≡ staying_nodes (version_sets vs) (reverse old) → vs ≡ ws → placed_in (reverse new) ≡ staying (version_sets ws) (placed_in (reverse old))
stays_as {O} old new vs ws e same =
    ap (λ (l : List (Node O)). placed_in l) e ∙ placed_stay (reverse old) (version_sets vs) ∙ ap (λ (v : List (List ℕ × ℕ)). staying (version_sets v) (placed_in (reverse old))) same
