-- What a walk crosses of what a write can reach.
use Rattle.std.proofs.Common.{◌≡◌, ℕ, ◌+◌, ◌*◌, ◌≤◌, List, [], ◌∷◌, length, true, false, Bool, refl, sym, ap, ◌∙◌, subst, arith}
use Rattle.std.proofs.lemmas.List.{length-map}
use Rattle.std.proofs.lemmas.Nat.{mul-le}
use Rattle.version_graph.specs.Laws.{Leaves, Ordered}
use Rattle.version_graph.specs.Sets.{Distinct, In, Each}
use Rattle.version_graph.specs.Edges.{AreEdges, is_in}
use Rattle.version_graph.specs.Forest.{Crossing, Link, crossed, crossing, forest, walk}
use Rattle.version_graph.specs.declared.parts.Placed.{Placed}
use Rattle.version_graph.proofs.SetLaws.{each_at, each_of, origin}
use Rattle.version_graph.proofs.TableLaws.{distinct_part, in_filter}
use Rattle.version_graph.proofs.WalkLaws.{is_forest, walk_in_order}
use Rattle.layout_rules.proofs.LinkLaws.{same_link}
use Rattle.op_law.specs.Meaning.{Meaning}
use Rattle.version_model.specs.Bounds.{AreLocal}
use Rattle.version_model.proofs.CrossingLaws.{GoesOver, walk_goes_over}
use Rattle.changes_walk.specs.Reach.{reached}
use Rattle.changes_walk.proofs.ReachLaws.{IsInside, each_reached, reached_few, reached_inside}
use Rattle.db_state.specs.Parts.{AreLocalAt}
use Rattle.write_plans.specs.Trees.{IsTree}
use Rattle.write_plans.specs.declared.tree.Tree.{Tree}

-- with fewer operators a bound on steps is met all the more
pub fewer_operators : (n few many s t : ℕ) → few ≤ many → t ≤ s + 16 * (n * few) → t ≤ s + 16 * (n * many)
fewer_operators n few many s t less within =
    let most = mul-le n few n many (omega arith) less in
    omega (arith, within, most)

-- a crossing has the number of its operator
pub number_of : {O : Type 0} (f : Link O) (back : Bool) → (crossing back f).number ≡ f.number
number_of f true = refl
number_of f false = refl

-- each operator is crossed once
pub crossed_apart : {O : Type 0} (ps : List (Crossing O)) → Ordered ps → Distinct (crossed ps)
crossed_apart [] order = tt
crossed_apart {O} (p ∷ ps) order = (
  λ i.
      let o = origin (λ (q : Crossing O). q.number) p.number ps i in
      (each_at (Leaves p) ps o.0 o.1 order.2).memory o.2,
  crossed_apart ps order.3,
)

module _ {O : Type 0} (es : List (Placed O)) (set table : ℕ) (tree : Tree) (is : IsTree es set table tree) where
  abbrev links : List (Link O)
  links = forest es

  -- the crossings of a write
  abbrev pub path : List (Crossing O)
  path = reached tree.operators (walk links set)

  pub path_inside : Each (IsInside tree.operators tree.tables) path
  path_inside = reached_inside es set table tree.operators tree.tables is

  pub path_over : Each (GoesOver links) path
  path_over = each_reached tree.operators (GoesOver links) (walk links set) (walk_goes_over links set)

  pub path_long : length path ≡ length tree.operators
  path_long = sym (ap (λ (l : List ℕ). length l) is.listed ∙ length-map path (λ (p : Crossing O). p.number))

  pub path_few : length tree.operators ≤ length (walk links set)
  path_few = subst (λ (n : ℕ). n ≤ length (walk links set)) path_long (reached_few tree.operators (walk links set))

  -- an operator that is reached is crossed
  pub crossing_at : (n : ℕ) → In n tree.operators → (p : Crossing O) × In p path × (n ≡ p.number)
  crossing_at n i = origin (λ (p : Crossing O). p.number) n path (subst (λ (l : List ℕ). In n l) is.listed i)

  -- its operators live
  pub lives : (n : ℕ) → In n tree.operators → (e : Link O) × In e links × (n ≡ e.number)
  lives n i =
      let o = crossing_at n i in
      let over = each_at (GoesOver links) path o.0 o.1 path_over in
      (over.over, over.among, o.2 ∙ ap (λ (p : Crossing O). p.number) over.is ∙ number_of over.over over.back)

  -- it crosses operators of the tree
  pub path_local : (meaning : O → Meaning) → AreLocalAt meaning es tree.operators → AreLocal meaning path
  path_local meaning local =
      each_of (λ (p : Crossing O). (meaning p.operator).is_local ≡ true) path (λ p i.
      let over = each_at (GoesOver links) path p i path_over in
      let inside = each_at (IsInside tree.operators tree.tables) path p i path_inside in
      subst (λ (q : Crossing O). (meaning q.operator).is_local ≡ true) (sym over.is) (of_link over.over over.among over.back (subst (λ (q : Crossing O). In q.number tree.operators) over.is inside.number)))
    where
      of_link : (e : Link O) → In e links → (back : Bool) → In (crossing back e).number tree.operators → (meaning (crossing back e).operator).is_local ≡ true
      of_link e i true j = local e i j
      of_link e i false j = local e i j

  module _ (edges : AreEdges es) where
    -- and no others are among those of the whole walk
    pub tree_local : (meaning : O → Meaning) → AreLocal meaning (walk links set) → AreLocalAt meaning es tree.operators
    tree_local meaning local e i j =
        let o = crossing_at e.number j in
        let over = each_at (GoesOver links) path o.0 o.1 path_over in
        let here : (meaning o.0.operator).is_local ≡ true = each_at (λ (p : Crossing O). (meaning p.operator).is_local ≡ true) (walk links set) o.0 (in_filter (λ (p : Crossing O). is_in p.number tree.operators) o.0 (walk links set) o.1) local in
        let number : e.number ≡ over.over.number = o.2 ∙ ap (λ (p : Crossing O). p.number) over.is ∙ number_of over.over over.back in
        let same : e ≡ over.over = same_link links e over.over (is_forest es edges) i over.among number in
        subst (λ (f : Link O). (meaning f.operator).is_local ≡ true) (sym same) (of_crossing over.over over.back (subst (λ (p : Crossing O). (meaning p.operator).is_local ≡ true) over.is here))
      where
        of_crossing : (f : Link O) (back : Bool) → (meaning (crossing back f).operator).is_local ≡ true → (meaning f.operator).is_local ≡ true
        of_crossing f true h = h
        of_crossing f false h = h

    pub operators_apart : Distinct tree.operators
    operators_apart =
        subst (λ (l : List ℕ). Distinct l) (sym is.listed)
        (distinct_part (λ (p : Crossing O). p.number) (λ (p : Crossing O). is_in p.number tree.operators) (walk links set) (crossed_apart (walk links set) (walk_in_order es edges set)))
