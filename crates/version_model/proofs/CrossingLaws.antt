-- The crossings of a walk are those of live edges.
use Rattle.version_model.specs.Calls.{IsCrossing}
use Rattle.std.proofs.Common.{◌≡◌, ℕ, List, [], ◌∷◌, ◌++◌, Bool, true, false, cond, inl, inr, refl, sym, ap, ◌∙◌, subst, arith}
use Rattle.std.specs.Prelude.{◌==◌, Some}
use Rattle.std.proofs.lemmas.Bool.{eq-eqb, ne_eqb, eqb-true, cond-true, cond-false}
use Rattle.std.proofs.lemmas.List.{map-append}
use Rattle.version_graph.specs.Sets.{In, Within, Each}
use Rattle.version_graph.specs.Tables.{TableVersion, table_numbers}
use Rattle.version_graph.specs.Edges.{AreEdges, numbers, made, made_by_edge, edge_of, sources_at, sources_of}
use Rattle.version_graph.specs.Forest.{Link, Crossing, crossing, forest, link, up, rest, tree, walk}
use Rattle.version_graph.specs.declared.parts.Placed.{Placed}
use Rattle.version_graph.proofs.SetLaws.{each_append, each_more, each_of}
use Rattle.version_graph.proofs.TableLaws.{numbers_made}
use Rattle.version_graph.proofs.TakenLaws.{found_passes}
use Rattle.version_graph.proofs.WalkLaws.{Of, good, is_forest, link_numbers, link_targets}

-- the crossing goes over one of these links
pub record GoesOver {O : Type 0} (es : List (Link O)) (p : Crossing O) : Type 0 where
  pub over : Link O
  pub among : In over es
  pub back : Bool
  pub is : p ≡ crossing back over

-- ---- what is true of links both ways is true of a walk

module _ {O : Type 0} (P : Crossing O → Type 0) where
  up_each : (es : List (Link O)) (w : ℕ) → Each (λ e. P (crossing true e) × P (crossing false e)) es → Each P (up es w)
  up_each [] w h = tt
  up_each (e ∷ es) w h =
      elim (w == e.number) as (λ b. Each P (cond b (crossing true e ∷ up es e.parent) (up es w))) [
        | true ↦ (h.0.0, up_each es e.parent h.1)
        | false ↦ up_each es w h.1
      ]

  rest_each : (test : ℕ → Bool) (es : List (Link O)) (w : ℕ) → Each (λ e. P (crossing true e) × P (crossing false e)) es → Each P (rest test es w)
  rest_each test [] w h = tt
  rest_each test (e ∷ es) w h =
      elim (w == e.number) as (λ b. Each P (cond b (rest test es e.parent) (rest test es w ++ cond (test e.number) (crossing false e ∷ []) []))) [
        | true ↦ rest_each test es e.parent h.1
        | false ↦ each_append P (rest test es w) (cond (test e.number) (crossing false e ∷ []) []) (rest_each test es w h.1)
            (elim (test e.number) as (λ b. Each P (cond b (crossing false e ∷ []) [])) [ true ↦ (h.0.1, tt) | false ↦ tt ])
      ]

  pub walk_each : (es : List (Link O)) (w : ℕ) → Each (λ e. P (crossing true e) × P (crossing false e)) es → Each P (walk es w)
  walk_each es w h =
      let test : ℕ → Bool = λ n. tree es n == tree es w in
      each_append P (up es w) (rest test es w) (up_each es w h) (rest_each test es w h)

module _ {O : Type 0} where
  pub walk_goes_over : (es : List (Link O)) (w : ℕ) → Each (GoesOver es) (walk es w)
  walk_goes_over es w =
      walk_each (GoesOver es) es w (each_of (λ (e : Link O). GoesOver es (crossing true e) × GoesOver es (crossing false e)) es (λ e i. (
        record { over = e; among = i; back = true; is = refl },
        record { over = e; among = i; back = false; is = refl },
      )))

  -- ---- the crossings of a walk are those of live edges

  lives : (es : List (Placed O)) (n : ℕ) (e : Placed O) → edge_of es n ≡ Some e → In n (numbers es)
  lives es n e is =
      let p = found_passes (λ (f : Placed O). n == f.number) es e is in
      subst (λ (k : ℕ). In k (numbers es)) (sym (eqb-true n e.number p.1)) (listed es e p.0)
    where
      listed : (fs : List (Placed O)) (f : Placed O) → In f fs → In f.number (numbers fs)
      listed [] f i = i
      listed (g ∷ fs) f (inl same) = inl (ap (λ (x : Placed O). x.number) same)
      listed (g ∷ fs) f (inr i) = inr (listed fs f i)

  -- an edge more
  pub crossing_more : (e : Placed O) (es : List (Placed O)) → AreEdges (e ∷ es) → (p : Crossing O) → IsCrossing es p → IsCrossing (e ∷ es) p
  crossing_more e es edges p c =
      let other : (p.number == e.number) ≡ false = ne_eqb p.number e.number (λ same. let less = edges.0.newest p.number (inr (lives es p.number c.edge c.live)) in omega arith) in
      record {
        edge = c.edge;
        live = cond-false (p.number == e.number) (Some e) (edge_of es p.number) other ∙ c.live;
        operator = c.operator;
        sources = cond-false (p.number == e.number) (Some (table_numbers (sources_of es e))) (sources_at es p.number) other ∙ c.sources;
        targets = c.targets;
      }

  -- the newest edge
  pub crossing_here : (e : Placed O) (es : List (Placed O)) (b : Bool) → IsCrossing (e ∷ es) (crossing b (link es e))
  crossing_here e es b =
      let here : (e.number == e.number) ≡ true = eq-eqb e.number e.number refl in
      let live = cond-true (e.number == e.number) (Some e) (edge_of es e.number) here in
      let sources = cond-true (e.number == e.number) (Some (table_numbers (sources_of es e))) (sources_at es e.number) here in
      elim b as (λ b. IsCrossing (e ∷ es) (crossing b (link es e))) [
        | true ↦ record { edge = e; live = live; operator = refl; sources = sources; targets = refl }
        | false ↦ record { edge = e; live = live; operator = refl; sources = sources; targets = refl }
      ]

  pub crossings_live : (es : List (Placed O)) → AreEdges es → Each (λ f. IsCrossing es (crossing true f) × IsCrossing es (crossing false f)) (forest es)
  crossings_live [] edges = tt
  crossings_live (e ∷ es) edges = (
    (crossing_here e es true, crossing_here e es false),
    each_more (λ (f : Link O). IsCrossing es (crossing true f) × IsCrossing es (crossing false f)) (λ (f : Link O). IsCrossing (e ∷ es) (crossing true f) × IsCrossing (e ∷ es) (crossing false f))
        (λ f c. (crossing_more e es edges (crossing true f) c.0, crossing_more e es edges (crossing false f) c.1)) (forest es) (crossings_live es edges.1),
  )

  -- EACH CROSSING OF A WALK IS THAT OF A LIVE EDGE
  pub walk_crosses_edges : (es : List (Placed O)) → AreEdges es → (w : ℕ) → Each (IsCrossing es) (walk (forest es) w)
  walk_crosses_edges es edges w = walk_each (IsCrossing es) (forest es) w (crossings_live es edges)

  -- ---- numbers

  pub numbers_linked : (es : List (Placed O)) → link_numbers (forest es) ≡ numbers es
  numbers_linked [] = refl
  numbers_linked (e ∷ es) = ap (λ (l : List ℕ). e.number ∷ l) (numbers_linked es)

  pub targets_linked : (es : List (Placed O)) → AreEdges es → link_targets (forest es) ≡ table_numbers (made es)
  targets_linked [] edges = refl
  targets_linked (e ∷ es) edges =
      ap (λ (l : List ℕ). e.tables ++ l) (targets_linked es edges.1)
      ∙ ap (λ (l : List ℕ). l ++ table_numbers (made es)) (sym (numbers_made e.tables e.edge.targets edges.0.counted))
      ∙ sym (map-append (λ (v : TableVersion). v.number) (made_by_edge e) (made es))

  -- a walk is over the tables and the operators that live
  pub record IsWithin (es : List (Placed O)) (p : Crossing O) : Type 0 where
    pub near : Within p.near (table_numbers (made es))
    pub far : Within p.far (table_numbers (made es))
    pub number : In p.number (numbers es)

  pub is_within : (es : List (Placed O)) → AreEdges es → (p : Crossing O) → Of (forest es) p → IsWithin es p
  is_within es edges p o = record {
    near = λ n i. subst (λ (l : List ℕ). In n l) (targets_linked es edges) (o.near n i);
    far = λ n i. subst (λ (l : List ℕ). In n l) (targets_linked es edges) (o.far n i);
    number = subst (λ (l : List ℕ). In p.number l) (numbers_linked es) o.number;
  }

  pub walk_within : (es : List (Placed O)) → AreEdges es → (w : ℕ) → Each (IsWithin es) (walk (forest es) w)
  walk_within es edges w =
      let test : ℕ → Bool = λ n. tree (forest es) n == tree (forest es) w in
      let g = good test (forest es) (is_forest es edges) w in
      each_more (Of (forest es)) (IsWithin es) (is_within es edges) (walk (forest es) w)
      (each_append (Of (forest es)) (up (forest es) w) (rest test (forest es) w) g.up_of g.rest_of)
