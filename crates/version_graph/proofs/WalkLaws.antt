-- A walk is in order, and leaves the written working set alone.
use Rattle.std.specs.Prelude.{◌≡◌, ℕ, ◌<◌, Bool, true, false, not, List, [], ◌∷◌, ◌++◌, cond, ◌==◌, option_to_list, Option, Some, None}
use Rattle.std.proofs.Common.{inl, inr, refl, sym, ap, ◌∙◌, subst, arith}
use Rattle.std.proofs.lemmas.Bool.{false≢true}
use Rattle.std.proofs.lemmas.List.{map-append}
use Rattle.version_graph.specs.Sets.{In, Apart, Distinct, Within, Each}
use Rattle.version_graph.specs.Tables.{TableVersion, table_numbers, taken, table_named}
use Rattle.version_graph.specs.Edges.{AreEdges, is_in, numbers, working, set_after, made, made_by_edge}
use Rattle.version_graph.specs.Forest.{Link, Crossing, crossing, forest, minus, tables_in, up, rest, tree, walk}
use Rattle.version_graph.specs.Laws.{Leaves, Ordered}
use Rattle.version_graph.specs.declared.parts.Placed.{Placed}
use Rattle.version_graph.proofs.SetLaws.{each_more, each_both, each_append, in_append, in_left, in_right, in_map, origin, is_in_true}
use Rattle.version_graph.proofs.NameLaws.{same_name}
use Rattle.version_graph.proofs.TableLaws.{in_filter, passes, numbers_made, rises_apart, tables_once, names_once}
use Rattle.version_graph.proofs.TakenLaws.{same_item, found_passes, passing_numbers}

abbrev pub link_numbers : {O : Type 0} → List (Link O) → List ℕ
link_numbers [] = []
link_numbers (e ∷ es) = e.number ∷ link_numbers es

abbrev pub link_targets : {O : Type 0} → List (Link O) → List ℕ
link_targets [] = []
link_targets (e ∷ es) = e.targets ++ link_targets es

-- a link fits on older ones
pub record Fits {O : Type 0} (es : List (Link O)) (e : Link O) : Type 0 where
  pub newest : (n : ℕ) → In n (0 ∷ link_numbers es) → n < e.number
  pub within : Within e.sources (tables_in es e.parent)
  pub sources : Distinct e.sources
  pub targets : Distinct e.targets
  pub fresh : Apart e.targets (link_targets es)

abbrev pub IsForest : {O : Type 0} → List (Link O) → Type 0
IsForest [] = Unit {0}
IsForest (e ∷ es) = Fits es e × IsForest es

pub out_minus : (n : ℕ) (xs ys : List ℕ) → In n (minus xs ys) → In n ys → ⊥
out_minus n xs ys i j =
    let out = passes (λ x. not (is_in x ys)) n xs i in
    false≢true (sym (ap not (is_in_true n ys j)) ∙ out)

module _ {O : Type 0} where
  in_after : (es : List (Link O)) (e : Link O) (ws : List ℕ) (n : ℕ) → Within ws (link_targets es) → In n (minus ws e.sources ++ e.targets) → In n (link_targets (e ∷ es))
  in_after es e ws n h i =
      elim (in_append n (minus ws e.sources) e.targets i) as (λ _. In n (link_targets (e ∷ es))) [
        | inl a ↦ in_right n e.targets (link_targets es) (h n (in_filter (λ x. not (is_in x e.sources)) n ws a))
        | inr b ↦ in_left n e.targets (link_targets es) b
      ]

  pub tables_made : (es : List (Link O)) (w : ℕ) → Within (tables_in es w) (link_targets es)
  tables_made [] w n i = i
  tables_made (e ∷ es) w n i =
      let M : Bool → Type 0 = λ b. In n (cond b (minus (tables_in es e.parent) e.sources ++ e.targets) (tables_in es w)) → In n (link_targets (e ∷ es)) in
      (elim (w == e.number) as (λ b. M b) [
        | true ↦ λ j. in_after es e (tables_in es e.parent) n (tables_made es e.parent) j
        | false ↦ λ j. in_right n e.targets (link_targets es) (tables_made es w n j)
      ]) i

  pub sources_older : (es : List (Link O)) (e : Link O) → Fits es e → Within e.sources (link_targets es)
  sources_older es e f n i = tables_made es e.parent n (f.within n i)

  pub targets_apart : (es : List (Link O)) (e : Link O) → Fits es e → Apart e.targets e.sources
  targets_apart es e f n i j = f.fresh n i (sources_older es e f n j)

module _ {O : Type 0} where
  pub ordered_append : (ps qs : List (Crossing O)) → Ordered ps → Ordered qs → Each (λ p. Each (Leaves p) qs) ps → Ordered (ps ++ qs)
  ordered_append [] qs o r c = r
  ordered_append (p ∷ ps) qs o r c = (o.0, o.1, each_append (Leaves p) ps qs o.2 c.0, ordered_append ps qs o.3 r c.1)

  -- a step over one of these edges
  pub record Of (es : List (Link O)) (p : Crossing O) : Type 0 where
    pub near : Within p.near (link_targets es)
    pub far : Within p.far (link_targets es)
    pub number : In p.number (link_numbers es)

  of_more : (e : Link O) (es : List (Link O)) (p : Crossing O) → Of es p → Of (e ∷ es) p
  of_more e es p o = record { near = λ n i. in_right n e.targets (link_targets es) (o.near n i); far = λ n i. in_right n e.targets (link_targets es) (o.far n i); number = inr o.number }

  -- what a way up and the rest are, with the working set
  pub record Good (es : List (Link O)) (ws : List ℕ) (ups rests : List (Crossing O)) : Type 0 where
    pub up_of : Each (Of es) ups
    pub up_apart : Each (λ p. Apart p.far ws) ups
    pub up_ordered : Ordered ups
    pub rest_of : Each (Of es) rests
    pub rest_apart : Each (λ p. Apart p.far ws) rests
    pub rest_ordered : Ordered rests
    pub across : Each (λ p. Each (Leaves p) rests) ups

  module _ (e : Link O) (es : List (Link O)) (fit : Fits es e) where
    older_number : (p : Crossing O) → Of es p → p.number < e.number
    older_number p o = fit.newest p.number (inr o.number)

    leaves_back : (p : Crossing O) → Of es p → Apart p.far (tables_in es e.parent) → Leaves (crossing true e) p
    leaves_back p o a = record {
      near = λ n i j. fit.fresh n i (o.far n j);
      far = λ n i j. a n j (fit.within n i);
      memory = λ same. let less = older_number p o in omega arith;
    }

    pub leaves_front : (p : Crossing O) → Of es p → Leaves p (crossing false e)
    leaves_front p o = record {
      near = λ n i j. fit.fresh n j (o.near n i);
      far = λ n i j. fit.fresh n j (o.far n i);
      memory = λ same. let less = older_number p o in omega arith;
    }

    apart_after : (p : Crossing O) → Of es p → Apart p.far (tables_in es e.parent) → Apart p.far (minus (tables_in es e.parent) e.sources ++ e.targets)
    apart_after p o a n i j =
        elim (in_append n (minus (tables_in es e.parent) e.sources) e.targets j) as (λ _. ⊥) [
          | inl k ↦ a n i (in_filter (λ x. not (is_in x e.sources)) n (tables_in es e.parent) k)
          | inr k ↦ fit.fresh n k (o.far n i)
        ]

    back_of : Of (e ∷ es) (crossing true e)
    back_of = record { near = λ n i. in_left n e.targets (link_targets es) i; far = λ n i. in_right n e.targets (link_targets es) (sources_older es e fit n i); number = inl refl }

    front_of : Of (e ∷ es) (crossing false e)
    front_of = record { near = λ n i. in_right n e.targets (link_targets es) (sources_older es e fit n i); far = λ n i. in_left n e.targets (link_targets es) i; number = inl refl }

    back_apart : Apart e.sources (minus (tables_in es e.parent) e.sources ++ e.targets)
    back_apart n i j =
        elim (in_append n (minus (tables_in es e.parent) e.sources) e.targets j) as (λ _. ⊥) [
          | inl k ↦ out_minus n (tables_in es e.parent) e.sources k i
          | inr k ↦ targets_apart es e fit n k i
        ]

    -- the edge stands on the way up
    good_up : (ups rests : List (Crossing O)) → Good es (tables_in es e.parent) ups rests → Good (e ∷ es) (minus (tables_in es e.parent) e.sources ++ e.targets) (crossing true e ∷ ups) rests
    good_up ups rests g = record {
      up_of = (back_of, each_more (Of es) (Of (e ∷ es)) (of_more e es) ups g.up_of);
      up_apart = (back_apart, each_both (Of es) (λ p. Apart p.far (tables_in es e.parent)) (λ p. Apart p.far (minus (tables_in es e.parent) e.sources ++ e.targets)) apart_after ups g.up_of g.up_apart);
      up_ordered = (fit.sources, targets_apart es e fit, each_both (Of es) (λ p. Apart p.far (tables_in es e.parent)) (Leaves (crossing true e)) leaves_back ups g.up_of g.up_apart, g.up_ordered);
      rest_of = each_more (Of es) (Of (e ∷ es)) (of_more e es) rests g.rest_of;
      rest_apart = each_both (Of es) (λ p. Apart p.far (tables_in es e.parent)) (λ p. Apart p.far (minus (tables_in es e.parent) e.sources ++ e.targets)) apart_after rests g.rest_of g.rest_apart;
      rest_ordered = g.rest_ordered;
      across = (each_both (Of es) (λ p. Apart p.far (tables_in es e.parent)) (Leaves (crossing true e)) leaves_back rests g.rest_of g.rest_apart, g.across);
    }

    -- the edge stands elsewhere, and isn't walked
    good_out : (ws : List ℕ) (ups rests : List (Crossing O)) → Good es ws ups rests → Good (e ∷ es) ws ups (rests ++ [])
    good_out ws ups rests g = record {
      up_of = each_more (Of es) (Of (e ∷ es)) (of_more e es) ups g.up_of;
      up_apart = g.up_apart;
      up_ordered = g.up_ordered;
      rest_of = each_append (Of (e ∷ es)) rests [] (each_more (Of es) (Of (e ∷ es)) (of_more e es) rests g.rest_of) tt;
      rest_apart = each_append (λ p. Apart p.far ws) rests [] g.rest_apart tt;
      rest_ordered = ordered_append rests [] g.rest_ordered tt (each_more (Of es) (λ p. Each (Leaves p) []) (λ p _. tt) rests g.rest_of);
      across = each_more (λ p. Each (Leaves p) rests) (λ p. Each (Leaves p) (rests ++ [])) (λ p h. each_append (Leaves p) rests [] h tt) ups g.across;
    }

    -- the edge stands elsewhere, and is walked forward
    good_rest : (ws : List ℕ) (ups rests : List (Crossing O)) → Within ws (link_targets es) → Good es ws ups rests → Good (e ∷ es) ws ups (rests ++ (crossing false e ∷ []))
    good_rest ws ups rests within g = record {
      up_of = each_more (Of es) (Of (e ∷ es)) (of_more e es) ups g.up_of;
      up_apart = g.up_apart;
      up_ordered = g.up_ordered;
      rest_of = each_append (Of (e ∷ es)) rests (crossing false e ∷ []) (each_more (Of es) (Of (e ∷ es)) (of_more e es) rests g.rest_of) (front_of, tt);
      rest_apart = each_append (λ p. Apart p.far ws) rests (crossing false e ∷ []) g.rest_apart ((λ n i j. fit.fresh n i (within n j)), tt);
      rest_ordered = ordered_append rests (crossing false e ∷ []) g.rest_ordered (fit.targets, (λ n i j. targets_apart es e fit n j i), tt, tt) (each_more (Of es) (λ p. Each (Leaves p) (crossing false e ∷ [])) (λ p o. (leaves_front p o, tt)) rests g.rest_of);
      across = each_both (Of es) (λ p. Each (Leaves p) rests) (λ p. Each (Leaves p) (rests ++ (crossing false e ∷ []))) (λ p o h. each_append (Leaves p) rests (crossing false e ∷ []) h (leaves_front p o, tt)) ups g.up_of g.across;
    }

  -- each edge is over tables and numbers of the forest
  pub all_of : (es : List (Link O)) → IsForest es → Each (λ f. Of es (crossing false f)) es
  all_of [] forest = tt
  all_of (e ∷ es) forest = (front_of e es forest.0, each_more (λ (f : Link O). Of es (crossing false f)) (λ (f : Link O). Of (e ∷ es) (crossing false f)) (λ f o. of_more e es (crossing false f) o) es (all_of es forest.1))

  module _ (test : ℕ → Bool) where
    pub good : (es : List (Link O)) → IsForest es → (w : ℕ) → Good es (tables_in es w) (up es w) (rest test es w)
    good [] forest w = record { up_of = tt; up_apart = tt; up_ordered = tt; rest_of = tt; rest_apart = tt; rest_ordered = tt; across = tt }
    good (e ∷ es) forest w =
        let M : Bool → Type 0 = λ b. Good (e ∷ es) (cond b (minus (tables_in es e.parent) e.sources ++ e.targets) (tables_in es w)) (cond b (crossing true e ∷ up es e.parent) (up es w)) (cond b (rest test es e.parent) (rest test es w ++ cond (test e.number) (crossing false e ∷ []) [])) in
        let N : Bool → Type 0 = λ b. Good (e ∷ es) (tables_in es w) (up es w) (rest test es w ++ cond b (crossing false e ∷ []) []) in
        elim (w == e.number) as (λ b. M b) [
          | true ↦ good_up e es forest.0 (up es e.parent) (rest test es e.parent) (good es forest.1 e.parent)
          | false ↦ elim (test e.number) as (λ b. N b) [
            | true ↦ good_rest e es forest.0 (tables_in es w) (up es w) (rest test es w) (tables_made es w) (good es forest.1 w)
            | false ↦ good_out e es forest.0 (tables_in es w) (up es w) (rest test es w) (good es forest.1 w)
          ]
        ]

    -- THE WALK IS IN ORDER
    pub walk_ordered : (es : List (Link O)) → IsForest es → (w : ℕ) → Ordered (up es w ++ rest test es w)
    walk_ordered es forest w = let g = good es forest w in ordered_append (up es w) (rest test es w) g.up_ordered g.rest_ordered g.across

    -- no step changes a table of the written working set
    pub walk_apart : (es : List (Link O)) → IsForest es → (w : ℕ) → Each (λ p. Apart p.far (tables_in es w)) (up es w ++ rest test es w)
    walk_apart es forest w = let g = good es forest w in each_append (λ p. Apart p.far (tables_in es w)) (up es w) (rest test es w) g.up_apart g.rest_apart

-- ---- the links of edges are a forest

named_in : (set : List TableVersion) (names : List (List ℕ)) (v : TableVersion) → In v (taken set names) → In v set × In v.heading.name names
named_in set [] v i = absurd i
named_in set (name ∷ names) v i =
    elim (in_append v (option_to_list (table_named set name)) (taken set names) i) as (λ _. In v set × In v.heading.name (name ∷ names)) [
      | inl j ↦ first (table_named set name) refl j
      | inr j ↦ (let r = named_in set names v j in (r.0, inr r.1))
    ]
  where
    first : (o : Option TableVersion) → table_named set name ≡ o → In v (option_to_list o) → In v set × In v.heading.name (name ∷ names)
    first None is j = absurd j
    first (Some u) is (inl same) =
        let p = found_passes (λ (t : TableVersion). Rattle.std.specs.Str.bytes_eq t.heading.name name) set u is in
        (subst (λ (t : TableVersion). In t set) (sym same) p.0, inl (ap (λ (t : TableVersion). t.heading.name) same ∙ same_name u.heading.name name p.1))
    first (Some u) is (inr j) = absurd j

taken_once : (set : List TableVersion) (names : List (List ℕ)) → Distinct (table_numbers set) → Distinct names → Distinct (table_numbers (taken set names))
taken_once set [] dn d = tt
taken_once set (name ∷ names) dn d = next (table_named set name) refl (taken_once set names dn d.1)
  where
    next : (o : Option TableVersion) → table_named set name ≡ o → Distinct (table_numbers (taken set names)) → Distinct (table_numbers (option_to_list o ++ taken set names))
    next None is rest = rest
    next (Some u) is rest =
        let p = found_passes (λ (t : TableVersion). Rattle.std.specs.Str.bytes_eq t.heading.name name) set u is in (
          (λ i.
              let o = origin (λ (t : TableVersion). t.number) u.number (taken set names) i in
              let r = named_in set names o.0 o.1 in
              let same : u ≡ o.0 = same_item (λ (t : TableVersion). t.number) set u o.0 dn p.0 r.0 o.2 in
              d.0 (subst (λ (n : List ℕ). In n names) (ap (λ (t : TableVersion). t.heading.name) (sym same) ∙ same_name u.heading.name name p.1) r.1)),
          rest,
        )

module _ {O : Type 0} where
  numbers_linked : (es : List (Placed O)) → link_numbers (forest es) ≡ numbers es
  numbers_linked [] = refl
  numbers_linked (e ∷ es) = ap (λ (l : List ℕ). e.number ∷ l) (numbers_linked es)

  targets_linked : (es : List (Placed O)) → AreEdges es → link_targets (forest es) ≡ table_numbers (made es)
  targets_linked [] edges = refl
  targets_linked (e ∷ es) edges =
      ap (λ (l : List ℕ). e.tables ++ l) (targets_linked es edges.1)
      ∙ ap (λ (l : List ℕ). l ++ table_numbers (made es)) (sym (numbers_made e.tables e.edge.targets edges.0.counted))
      ∙ sym (map-append (λ (t : TableVersion). t.number) (made_by_edge e) (made es))

  -- working sets by numbers
  pub sets_linked : (es : List (Placed O)) → AreEdges es → (w : ℕ) → tables_in (forest es) w ≡ table_numbers (working es w)
  sets_linked [] edges w = refl
  sets_linked (e ∷ es) edges w =
      let set = working es e.parent in
      let out = table_numbers (taken set e.edge.sources) in
      elim (w == e.number) as (λ b. cond b (minus (tables_in (forest es) e.parent) out ++ e.tables) (tables_in (forest es) w) ≡ table_numbers (cond b (set_after set e) (working es w))) [
        | true ↦
            ap (λ (l : List ℕ). minus l out ++ e.tables) (sets_linked es edges.1 e.parent)
            ∙ ap (λ (l : List ℕ). l ++ e.tables) (sym (passing_numbers set e.edge.sources (tables_once es edges.1 e.parent) (names_once es edges.1 e.parent)))
            ∙ ap (λ (l : List ℕ). table_numbers (Rattle.version_graph.specs.Tables.passing set e.edge.sources) ++ l) (sym (numbers_made e.tables e.edge.targets edges.0.counted))
            ∙ sym (map-append (λ (t : TableVersion). t.number) (Rattle.version_graph.specs.Tables.passing set e.edge.sources) (made_by_edge e))
        | false ↦ sets_linked es edges.1 w
      ]

  pub is_forest : (es : List (Placed O)) → AreEdges es → IsForest (forest es)
  is_forest [] edges = tt
  is_forest (e ∷ es) edges =
      let f = edges.0 in
      let set = working es e.parent in (
        record {
          newest = λ n i. elim i as (λ _. n < e.number) [ inl z ↦ f.newest n (inl z) | inr j ↦ f.newest n (inr (subst (λ (l : List ℕ). In n l) (numbers_linked es) j)) ];
          within = λ n i.
              let o = origin (λ (t : TableVersion). t.number) n (taken set e.edge.sources) i in
              let r = named_in set e.edge.sources o.0 o.1 in
              subst (λ (l : List ℕ). In n l) (sym (sets_linked es edges.1 e.parent)) (subst (λ (k : ℕ). In k (table_numbers set)) (sym o.2) (in_map (λ (t : TableVersion). t.number) o.0 set r.0));
          sources = taken_once set e.edge.sources (tables_once es edges.1 e.parent) f.fits.sources_once;
          targets = rises_apart 0 e.tables f.rising;
          fresh = λ n i j. let less = f.above n n (subst (λ (l : List ℕ). In n l) (targets_linked es edges.1) j) i in omega arith;
        },
        is_forest es edges.1,
      )

  pub walk_in_order : (es : List (Placed O)) → AreEdges es → (w : ℕ) → Ordered (walk (forest es) w)
  walk_in_order es edges w = walk_ordered (λ n. tree (forest es) n == tree (forest es) w) (forest es) (is_forest es edges) w

  pub walk_leaves_set : (es : List (Placed O)) → AreEdges es → (w : ℕ) → Each (λ p. Apart p.far (table_numbers (working es w))) (walk (forest es) w)
  walk_leaves_set es edges w =
      each_more (λ p. Apart p.far (tables_in (forest es) w)) (λ p. Apart p.far (table_numbers (working es w))) (λ p h. subst (λ (l : List ℕ). Apart p.far l) (sets_linked es edges w) h) (walk (forest es) w)
      (walk_apart (λ n. tree (forest es) n == tree (forest es) w) (forest es) (is_forest es edges) w)
