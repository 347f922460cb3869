-- From whatever layout a version is stored, its tree is laid out the same.
use Rattle.std.specs.Prelude.{◌↔◌, ◌*◌, Some, Ok, sum_by}
use Rattle.std.specs.List.{fold}
use Rattle.std.proofs.Common.{◌≡◌, ℕ, ◌+◌, suc, zero, List, [], ◌∷◌, Bool, true, filter, inl, inr, refl, sym, ap, ◌∙◌, subst}
use Rattle.std.proofs.lemmas.Bool.{eqb-true}
use Rattle.std.proofs.lemmas.List.{reverse-reverse}
use mathlib.Core.List.{reverse}
use Rattle.version_graph.specs.Sets.{In}
use Rattle.version_graph.specs.Edges.{AreEdges, Drawn, IsGraph, set_named}
use Rattle.version_graph.specs.Forest.{Link, forest, link, tree}
use Rattle.version_graph.specs.declared.parts.Placed.{Placed}
use Rattle.version_graph.proofs.SetLaws.{in_append}
use Rattle.version_graph.proofs.TableLaws.{in_filter, passes}
use Rattle.version_graph.proofs.WalkLaws.{is_forest}
use Rattle.version_graph.proofs.WalkStepLaws.{in_reverse}
use Rattle.layout_rules.specs.Closed.{closed_layout, closing}
use Rattle.layout_rules.specs.Closing.{IsIn, named_trees}
use Rattle.layout_rules.specs.Layouts.{IsMade, IsValid}
use Rattle.layout_rules.specs.Lookups.{tables_along}
use Rattle.layout_rules.specs.Ways.{IsOnWay, Reads, ReadsDown, ReadsFrom, ReadsOver, ReadsUp}
use Rattle.layout_rules.proofs.LinkLaws.{same_maker, source_made, target_link}
use Rattle.layout_planner.specs.Costs.{count_of, creates, in_tree, layout_for, table_cost, tables_of, way_length, whole}
use Rattle.layout_planner.specs.declared.planning.TableCount.{TableCount}
use Rattle.layout_planner.proofs.StoreLemmas.{closed, creates_valid, its_trees, layout_valid, maker_tree, never_refused}
use Rattle.layout_planner.proofs.WayLemmas.{same_length}

-- ---- ways never leave a tree

module _ {O : Type 0} (es : List (Placed O)) (root : ℕ) where
  -- a table that an operator of the tree made
  abbrev pub IsOfTree : ℕ → Type 0
  IsOfTree t = (f : Link O) × In f (forest es) × In t f.targets × (tree (forest es) f.number ≡ root)

module _ {O : Type 0} (es : List (Placed O)) (edges : AreEdges es) (root : ℕ) where
  abbrev IsOwn : ℕ → Type 0
  IsOwn t = IsOfTree es root t

  maker_root : (e : Link O) (t : ℕ) → In e (forest es) → In t e.targets → IsOwn t → tree (forest es) e.number ≡ root
  maker_root e t i a own = ap (λ (x : Link O). tree (forest es) x.number) (same_maker (forest es) e own.0 t (is_forest es edges) i own.1 a own.2) ∙ own.3

  taker_root : (e : Link O) (t : ℕ) → In e (forest es) → In t e.sources → IsOwn t → tree (forest es) e.number ≡ root
  taker_root e t i a own = sym (maker_tree es edges e own.0 t i own.1 a own.2) ∙ own.3

  source_own : (e : Link O) (u : ℕ) → In e (forest es) → In u e.sources → tree (forest es) e.number ≡ root → IsOwn u
  source_own e u i a own =
      let f = target_link (forest es) u (source_made (forest es) e u (is_forest es edges) i a) in
      (f.0, f.1, f.2, maker_tree es edges e f.0 u i f.1 a f.2 ∙ own)

  -- layouts that have the same operators of the tree
  module _ (layout other : List ℕ) (agree : (n : ℕ) → tree (forest es) n ≡ root → In n layout ↔ In n other) where
    up_same : (t : ℕ) (e : Link O) → In e (forest es) → IsOwn t → ReadsUp layout t e → ReadsUp other t e
    up_same t e i own up = (up.0, (λ has. up.1 ((agree e.number (maker_root e t i up.0 own)).1 has)))

    made_same : (t : ℕ) → IsOwn t → IsMade (forest es) layout t → IsMade (forest es) other t
    made_same t own made = (made.0, made.1, (agree made.0.number (maker_root made.0 t made.1 made.3 own)).0 made.2, made.3)

    down_same : (t : ℕ) (e : Link O) → In e (forest es) → IsOwn t → ReadsDown (forest es) layout t e → ReadsDown (forest es) other t e
    down_same t e i own down = (made_same t own down.0, down.1, (agree e.number (taker_root e t i down.1 own)).0 down.2)

    over_same : (t : ℕ) (e : Link O) → In e (forest es) → IsOwn t → ReadsOver (forest es) layout t e → ReadsOver (forest es) other t e
    over_same t e i own (inl up) = inl (up_same t e i own up)
    over_same t e i own (inr down) = inr (down_same t e i own down)

    from_same : (t : ℕ) (e : Link O) (u : ℕ) → In e (forest es) → IsOwn t → ReadsFrom (forest es) layout t e u → ReadsFrom (forest es) other t e u × IsOwn u
    from_same t e u i own (inl up) = (inl (up_same t e i own up.0, up.1), source_own e u i up.1 (maker_root e t i up.0.0 own))
    from_same t e u i own (inr down) = (inr (down_same t e i own down.0, down.1), (e, i, down.1, taker_root e t i down.0.1 own))

    reads_same : (k t u : ℕ) → IsOwn t → Reads (forest es) layout k t u → Reads (forest es) other k t u × IsOwn u
    reads_same zero t u own same = (same, subst IsOwn same own)
    reads_same (suc k) t u own r =
        let from = from_same t r.0 r.1 r.2 own r.3 in
        let rest = reads_same k r.1 u from.1 r.4 in
        ((r.0, r.1, r.2, from.0, rest.0), rest.1)

    pub way_same : (t n : ℕ) → IsOwn t → IsOnWay (forest es) layout t n → IsOnWay (forest es) other t n
    way_same t n own h =
        let reads = reads_same h.0 t h.1 own h.3 in
        (h.0, h.1, h.2, reads.0, h.4, over_same h.1 h.2 h.4 reads.1 h.5, h.6)

  lengths_same : (layout other : List ℕ) → ((n : ℕ) → tree (forest es) n ≡ root → In n layout ↔ In n other) → IsValid (forest es) layout → IsValid (forest es) other → (t : ℕ) → IsOwn t → way_length (forest es) layout t ≡ way_length (forest es) other t
  lengths_same layout other agree valid right t own =
      same_length (forest es) (is_forest es edges) layout other valid right t (λ n. (way_same layout other agree t n own, way_same other layout (λ m in_root. ((agree m in_root).1, (agree m in_root).0)) t n own))

-- ---- sums over a tree

sum_from : (f h : ℕ → ℕ) (a : ℕ) (xs : List ℕ) → ((x : ℕ) → In x xs → f x ≡ h x) → fold (λ (b x : ℕ). b + f x) a xs ≡ fold (λ (b x : ℕ). b + h x) a xs
sum_from f h a [] same = refl
sum_from f h a (x ∷ xs) same = ap (λ (y : ℕ). fold (λ (b x : ℕ). b + f x) (a + y) xs) (same x (inl refl)) ∙ sum_from f h (a + h x) xs (λ y i. same y (inr i))

sum_same : (f h : ℕ → ℕ) (xs : List ℕ) → ((x : ℕ) → In x xs → f x ≡ h x) → sum_by f xs ≡ sum_by h xs
sum_same f h xs same = sum_from f h 0 xs same

module _ {O : Type 0} where
  along_edge : (t : ℕ) (es : List (Placed O)) → In t (tables_along es) → (e : Placed O) × In e es × In t e.tables
  along_edge t [] i = absurd i
  along_edge t (e ∷ es) i = elim (in_append t e.tables (tables_along es) i) as (λ _. (f : Placed O) × In f (e ∷ es) × In t f.tables) [
    | inl j ↦ (e, inl refl, j)
    | inr j ↦ (let m = along_edge t es j in (m.0, inr m.1, m.2))
  ]

  edge_link : (es : List (Placed O)) (e : Placed O) → In e es → (f : Link O) × In f (forest es) × (e.number ≡ f.number) × (e.tables ≡ f.targets)
  edge_link [] e i = absurd i
  edge_link (x ∷ es) e (inl same) = (link es x, inl refl, ap (λ (y : Placed O). y.number) same, ap (λ (y : Placed O). y.tables) same)
  edge_link (x ∷ es) e (inr i) = let m = edge_link es e i in (m.0, inr m.1, m.2, m.3)

  table_of_tree : (es : List (Placed O)) (w t : ℕ) → In t (tables_of es (in_tree es w)) → IsOfTree es (tree (forest es) w) t
  table_of_tree es w t i =
      let test : Placed O → Bool = λ e. in_tree es w e.number in
      let e = along_edge t (filter test (reverse es)) i in
      let f = edge_link es e.0 (subst (λ (l : List (Placed O)). In e.0 l) (reverse-reverse es) (in_reverse e.0 (reverse es) (in_filter test e.0 (reverse es) e.1))) in
      let same = eqb-true (tree (forest es) e.0.number) (tree (forest es) w) (passes test e.0 (reverse es) e.1) in
      (f.0, f.1, subst (λ (l : List ℕ). In t l) f.3 e.2, ap (tree (forest es)) (sym f.2) ∙ same)

-- ---- a version, from any layout

module _ {O : Type 0} (g : Drawn O) (graph : IsGraph g) (layout name : List ℕ) (v w : ℕ) (is : set_named g.versions name ≡ Some v) (own : in_tree g.edges w v ≡ true) (valid : IsValid (forest g.edges) layout) where
  abbrev pub new : List ℕ
  new = closed_layout g layout (whole name ∷ [])

  -- the operators of the tree are laid out as told of the version
  laid_out : (n : ℕ) → tree (forest g.edges) n ≡ tree (forest g.edges) w → In n new ↔ In n (layout_for g name)
  laid_out n same =
      let root = eqb-true (tree (forest g.edges) v) (tree (forest g.edges) w) own in
      let inside : IsIn (forest g.edges) (named_trees g (whole name ∷ [])) n = subst (λ (l : List ℕ). In (tree (forest g.edges) n) l) (sym (its_trees g graph layout name v is)) (inl (same ∙ sym root)) in
      let here = (closed g graph layout name v is).named n inside in
      let there = (closed g graph (creates g.edges) name v is).named n inside in
      ((λ i. there.1 (here.0 i)), (λ i. here.1 (there.0 i)))

  pub move_cost : (counts : List TableCount) → sum_by (table_cost g.edges new counts) (tables_of g.edges (in_tree g.edges w)) ≡ sum_by (table_cost g.edges (layout_for g name) counts) (tables_of g.edges (in_tree g.edges w))
  move_cost counts =
      sum_same (table_cost g.edges new counts) (table_cost g.edges (layout_for g name) counts) (tables_of g.edges (in_tree g.edges w))
      (λ t i. ap (λ (k : ℕ). count_of counts t * k)
      (lengths_same g.edges graph.edges (tree (forest g.edges) w) new (layout_for g name) laid_out (layout_valid g graph layout name v is valid) (layout_valid g graph (creates g.edges) name v is (creates_valid g.edges graph.edges)) t (table_of_tree g.edges w t i)))

  pub move_given : closing g layout (whole name ∷ []) ≡ Ok new
  move_given = never_refused g graph layout name v is
