-- The length of a way is the number of the operators on it.
use Rattle.std.specs.Prelude.{◌↔◌}
use Rattle.std.proofs.Common.{◌≡◌, ℕ, ◌≤◌, List, [], ◌∷◌, Bool, true, false, cond, filter, map, length, inl, inr, refl, sym, ◌∙◌, subst, arith}
use Rattle.std.proofs.lemmas.Bool.{cond-false, cond-true, false_from_ne_true}
use Rattle.std.proofs.lemmas.List.{length-map}
use Rattle.std.proofs.lemmas.List.Sums.{count_by-le-length, length-filter}
use Rattle.version_graph.specs.Sets.{In, Distinct}
use Rattle.version_graph.specs.Edges.{Rises, is_in, operator_limit}
use Rattle.version_graph.specs.Forest.{Link, forest}
use Rattle.version_graph.specs.declared.parts.Placed.{Placed}
use Rattle.version_graph.proofs.SetLaws.{in_map, in_of_test, is_in_true, origin}
use Rattle.version_graph.proofs.TableLaws.{distinct_part, in_filter, passes, rises_apart}
use Rattle.version_graph.proofs.WalkLaws.{IsForest}
use Rattle.layout_rules.specs.Layouts.{IsValid}
use Rattle.layout_rules.specs.Passes.{meet}
use Rattle.layout_rules.specs.Ways.{IsOnWay, ReadsOver}
use Rattle.layout_rules.proofs.LinkLaws.{number_listed}
use Rattle.layout_rules.proofs.NeededLaws.{meet_at, meet_true}
use Rattle.layout_rules.proofs.WayLaws.{all_reached, reached_read}
use Rattle.layout_planner.specs.Costs.{is_read_over, read_for, way_length}
use Rattle.layout_planner.proofs.ListLemmas.{chosen_in, no_more}

module _ {O : Type 0} where
  -- operators have different numbers
  numbers_once : (es : List (Link O)) → IsForest es → Distinct (map (λ (e : Link O). e.number) es)
  numbers_once [] forest = tt
  numbers_once (e ∷ es) forest = (
    (λ i.
        let f = origin (λ (f : Link O). f.number) e.number es i in
        let less = forest.0.newest f.0.number (inr (number_listed es f.0 f.1)) in
        let same = f.2 in
        omega arith),
    numbers_once es forest.1,
  )

module _ {O : Type 0} (es : List (Link O)) (forest : IsForest es) (layout : List ℕ) (valid : IsValid es layout) (t : ℕ) where
  abbrev ts : List ℕ
  ts = read_for es layout t

  abbrev over : Link O → Bool
  over e = is_read_over layout ts e

  -- an operator over which one of the tables is read is on the way
  over_way : (e : Link O) → In e es → over e ≡ true → IsOnWay es layout t e.number
  over_way e i is = here (is_in e.number layout) refl is
    where
      here : (b : Bool) → is_in e.number layout ≡ b → cond b (meet e.sources ts) (meet e.targets ts) ≡ true → IsOnWay es layout t e.number
      here true has h =
          let m = meet_at e.sources ts h in
          let read = reached_read es forest layout valid t m.0 m.2 in
          let stands = in_of_test e.number layout has in
          (read.0, m.0, e, read.1, i, inr (valid.makers e i stands m.0 m.1, m.1, stands), refl)
      here false out h =
          let m = meet_at e.targets ts h in
          let read = reached_read es forest layout valid t m.0 m.2 in
          (read.0, m.0, e, read.1, i, inl (m.1, (λ has. let clash : true ≡ false = sym (is_in_true e.number layout has) ∙ out in cc)), refl)

  -- and over each operator on the way one is read
  reads_over : (e : Link O) (u : ℕ) → In u ts → ReadsOver es layout u e → over e ≡ true
  reads_over e u i (inl up) =
      cond-false (is_in e.number layout) (meet e.sources ts) (meet e.targets ts) (false_from_ne_true (is_in e.number layout) (λ h. up.1 (in_of_test e.number layout h))) ∙ meet_true u e.targets ts up.0 i
  reads_over e u i (inr down) =
      cond-true (is_in e.number layout) (meet e.sources ts) (meet e.targets ts) (is_in_true e.number layout down.2) ∙ meet_true u e.sources ts down.1 i

  abbrev found : List ℕ
  found = map (λ (e : Link O). e.number) (filter over es)

  found_way : (n : ℕ) → In n found → IsOnWay es layout t n
  found_way n i =
      let e = origin (λ (e : Link O). e.number) n (filter over es) i in
      subst (IsOnWay es layout t) (sym e.2) (over_way e.0 (in_filter over e.0 es e.1) (passes over e.0 es e.1))

  way_found : (n : ℕ) → IsOnWay es layout t n → In n found
  way_found n h =
      let reached = all_reached es forest layout valid t h.0 h.1 h.3 in
      subst (λ (k : ℕ). In k found) (sym h.6) (in_map (λ (e : Link O). e.number) h.2 (filter over es) (chosen_in over h.2 es h.4 (reads_over h.2 h.1 reached h.5)))

  found_once : Distinct found
  found_once = distinct_part (λ (e : Link O). e.number) over es (numbers_once es forest)

  found_counted : length found ≡ way_length es layout t
  found_counted = length-map (filter over es) (λ (e : Link O). e.number) ∙ length-filter over es

  -- the operators on the way are so many, in whatever order they are listed
  listed_counted : (way : List ℕ) → Distinct way → ((n : ℕ) → In n way ↔ IsOnWay es layout t n) → length way ≡ way_length es layout t
  listed_counted way once told =
      let some = no_more way found once (λ n i. way_found n ((told n).0 i)) in
      let all = no_more found way found_once (λ n i. (told n).1 (found_way n i)) in
      omega (arith, some, all, found_counted)

  pub way_counted : (way : List ℕ) → Rises 0 way → ((n : ℕ) → In n way ↔ IsOnWay es layout t n) → length way ≡ way_length es layout t
  way_counted way rise told = listed_counted way (rises_apart 0 way rise) told

-- ways on which the same operators are have one length
pub same_length : {O : Type 0} (es : List (Link O)) → IsForest es → (layout other : List ℕ) → IsValid es layout → IsValid es other → (t : ℕ) → ((n : ℕ) → IsOnWay es layout t n ↔ IsOnWay es other t n) → way_length es layout t ≡ way_length es other t
same_length es forest layout other valid right t same =
    sym (found_counted es forest layout valid t)
    ∙ listed_counted es forest other right t (found es forest layout valid t) (found_once es forest layout valid t) (λ n. ((λ i. (same n).0 (found_way es forest layout valid t n i)), (λ h. way_found es forest layout valid t n ((same n).1 h))))

length_forest : {O : Type 0} (es : List (Placed O)) → length (forest es) ≡ length es
length_forest [] = refl
length_forest (e ∷ es) = let rest = length_forest es in omega (arith, rest)

-- no way is longer than there are operators
pub way_few : {O : Type 0} (es : List (Placed O)) (layout : List ℕ) (t : ℕ) → length es ≤ operator_limit → way_length (forest es) layout t ≤ operator_limit
way_few es layout t few =
    let most = count_by-le-length (is_read_over layout (read_for (forest es) layout t)) (forest es) in
    let many = length_forest es in
    omega (arith, most, many, few)
