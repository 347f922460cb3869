-- New edges under the next numbers.
use Rattle.std.proofs.Common.{◌≡◌, ℕ, suc, ◌+◌, ◌<◌, ◌≤◌, List, [], ◌∷◌, ◌++◌, refl, sym, ap, ◌∙◌, subst, length, take, get_or, arith, inl, inr}
use Rattle.std.specs.Prelude.{◌==◌}
use Rattle.std.proofs.lemmas.Bool.{eq-eqb, cond-true}
use Rattle.std.proofs.lemmas.List.{take_more, map-append, reverse-append, take_at, take-take, length-take}
use mathlib.Core.List.{reverse}
use Rattle.version_graph.specs.Sets.{In, Each}
use Rattle.version_graph.specs.Tables.{TableVersion, table_numbers, headings_of, headings_after, FitInOrder}
use Rattle.version_graph.specs.Edges.{Follows, numbers, working, set_after, made, made_by_edge, Rises}
use Rattle.version_graph.specs.Evolve.{numbers_after, placed_next, grown, targets_in}
use Rattle.version_graph.specs.Kept.{AreRight, placed_in, edges_of}
use Rattle.version_graph.specs.Calls.{CanGrow, AddsNode}
use Rattle.version_graph.specs.declared.node.Node.{Node}
use Rattle.version_graph.specs.declared.parts.Edge.{Edge}
use Rattle.version_graph.specs.declared.parts.Placed.{Placed}
use Rattle.version_graph.proofs.SetLaws.{each_append, each_more, each_at}
use Rattle.version_graph.proofs.TableLaws.{numbers_made, headings_next, rises_above}

pub after_push : {X : Type 0} (last : ℕ) (xs : List X) (x : X) → numbers_after last (xs ++ x ∷ []) ≡ numbers_after last xs ++ (last + length xs + 1) ∷ []
after_push last [] x = let e : last + 1 ≡ last + 0 + 1 = omega arith in ap (λ (n : ℕ). n ∷ []) e
after_push last (y ∷ ys) x =
    let e : last + 1 + length ys + 1 ≡ last + suc (length ys) + 1 = omega arith in
    ap (λ (l : List ℕ). (last + 1) ∷ l) (after_push (last + 1) ys x ∙ ap (λ (n : ℕ). numbers_after (last + 1) ys ++ n ∷ []) e)

-- one number more
pub after_more : {X : Type 0} (last : ℕ) (xs : List X) (i : ℕ) (d : X) → i < length xs → numbers_after last (take (i + 1) xs) ≡ numbers_after last (take i xs) ++ (last + i + 1) ∷ []
after_more last xs i d within =
    ap (numbers_after last) (take_more xs i d within) ∙ after_push last (take i xs) (get_or xs i d)
    ∙ ap (λ (n : ℕ). numbers_after last (take i xs) ++ (last + n + 1) ∷ []) (Rattle.std.proofs.lemmas.List.length-take-le i xs (omega arith))

pub length_after : {X : Type 0} (last : ℕ) (xs : List X) → length (numbers_after last xs) ≡ length xs
length_after last [] = refl
length_after last (x ∷ xs) = ap suc (length_after (last + 1) xs)

pub rises_after : {X : Type 0} (low last : ℕ) (xs : List X) → low ≤ last → Rises low (numbers_after last xs)
rises_after low last [] less = tt
rises_after low last (x ∷ xs) less = (omega arith, rises_after (last + 1) (last + 1) xs (omega arith))

pub top_after : {X : Type 0} (last : ℕ) (xs : List X) → Each (λ t. t ≤ last + length xs) (numbers_after last xs)
top_after last [] = tt
top_after last (x ∷ xs) =
    (omega arith, each_more (λ t. t ≤ last + 1 + length xs) (λ t. t ≤ last + suc (length xs)) (λ t h. omega arith) (numbers_after (last + 1) xs) (top_after (last + 1) xs))

-- ---- limits

-- ---- one edge more

module _ {O : Type 0} (es : List (Placed O)) (p o t : ℕ) (e : Edge O) (more : List (Edge O)) (can : CanGrow es p o t (e ∷ more)) where
  abbrev new : Placed O
  new = placed_next p o t e

  follows : Follows es new
  follows = record {
    newest = λ n i. elim i as (λ _. n < o + 1) [ inl z ↦ omega arith | inr j ↦ let le = each_at (λ k. k ≤ o) (numbers es) n j can.operators in omega arith ];
    placed = can.live;
    fits = can.fits.0;
    counted = length_after t e.targets;
    rising = rises_after 0 t e.targets (omega arith);
    above = λ n k i j. let le = each_at (λ m. m ≤ t) (table_numbers (made es)) n i can.tables in let less = rises_above t (numbers_after t e.targets) (rises_after t t e.targets (omega arith)) k j in omega arith;
  }

  next_set : working (new ∷ es) (o + 1) ≡ set_after (working es p) new
  next_set = cond-true ((o + 1) == (o + 1)) (set_after (working es p) new) (working es (o + 1)) (eq-eqb (o + 1) (o + 1) refl)

  next_headings : headings_of (working (new ∷ es) (o + 1)) ≡ headings_after (headings_of (working es p)) e
  next_headings = ap (λ (s : List TableVersion). headings_of s) next_set ∙ headings_next (working es p) new (length_after t e.targets)

  made_is : table_numbers (made_by_edge new) ≡ numbers_after t e.targets
  made_is = numbers_made (numbers_after t e.targets) e.targets (length_after t e.targets)

  pub can_next : CanGrow (new ∷ es) (o + 1) (o + 1) (t + length e.targets) more
  can_next = record {
    edges = (follows, can.edges);
    live = inr (inl refl);
    operators = (omega arith, each_more (λ n. n ≤ o) (λ n. n ≤ o + 1) (λ n h. omega arith) (numbers es) can.operators);
    tables = subst (λ (l : List ℕ). Each (λ k. k ≤ t + length e.targets) l) (sym (map-append (λ (v : TableVersion). v.number) (made_by_edge new) (made es)))
        (each_append (λ k. k ≤ t + length e.targets) (table_numbers (made_by_edge new)) (table_numbers (made es))
        (subst (λ (l : List ℕ). Each (λ k. k ≤ t + length e.targets) l) (sym made_is) (top_after t e.targets))
        (each_more (λ k. k ≤ t) (λ k. k ≤ t + length e.targets) (λ k h. omega arith) (table_numbers (made es)) can.tables));
    fits = subst (λ hs. FitInOrder hs more) (sym next_headings) can.fits.1;
    few_operators = let a = can.few_operators in omega arith;
    few_tables = let a = can.few_tables in omega arith;
  }

-- ---- nodes

pub last_first : {X : Type 0} (xs : List X) (x : X) → reverse (xs ++ x ∷ []) ≡ x ∷ reverse xs
last_first xs x = reverse-append xs (x ∷ [])

module _ {O : Type 0} where
  -- what a further node adds
  pub added : (nodes new : List (Node O)) (low : ℕ) (e : Placed O) → AddsNode nodes low e new → AreRight (reverse nodes) → (edges_of new ≡ e ∷ edges_of nodes) × AreRight (reverse new) × (take (length nodes) new ≡ nodes)
  added nodes new low e a right =
      let n = a.0 in
      let turned : reverse new ≡ n ∷ reverse nodes = ap (λ (l : List (Node O)). reverse l) a.1 ∙ last_first nodes n in (
        ap (λ (l : List (Node O)). placed_in l) turned ∙ ap (λ (f : Placed O). f ∷ edges_of nodes) a.2,
        subst (λ (l : List (Node O)). AreRight l) (sym turned) (a.3, right),
        ap (λ (l : List (Node O)). take (length nodes) l) a.1 ∙ take_at nodes (n ∷ []) (length nodes) refl,
      )

  pub front_more : (first nodes new : List (Node O)) → take (length first) nodes ≡ first → take (length nodes) new ≡ nodes → take (length first) new ≡ first
  front_more first nodes new a b =
      let short : length first ≤ length nodes = omega (arith, sym (ap (λ (l : List (Node O)). length l) a) ∙ length-take (length first) nodes) in
      sym (take-take (length first) (length nodes) new short) ∙ ap (λ (l : List (Node O)). take (length first) l) b ∙ a

  -- one edge more of those that are left, the last of them first
  pub grow_step : (nodes new first : List (Node O)) (left rest : List (Edge O)) (p o t n : ℕ) (e : Edge O) (all : List (Placed O)) → left ≡ rest ++ e ∷ [] → n ≡ length e.targets → CanGrow (edges_of nodes) p o t (reverse left) → AreRight (reverse nodes)
      → take (length first) nodes ≡ first → grown (edges_of nodes) p o t (reverse left) ≡ all → AddsNode nodes t (placed_next p o t e) new
      → AreRight (reverse new) × CanGrow (edges_of new) (o + 1) (o + 1) (t + n) (reverse rest) × (take (length first) new ≡ first) × (grown (edges_of new) (o + 1) (o + 1) (t + n) (reverse rest) ≡ all)
  grow_step nodes new first left rest p o t n e all is count can right front so_far a =
      let turned : reverse left ≡ e ∷ reverse rest = ap (λ (l : List (Edge O)). reverse l) is ∙ last_first rest e in
      let add = added nodes new t (placed_next p o t e) a right in
      let next = can_next (edges_of nodes) p o t e (reverse rest) (subst (λ (l : List (Edge O)). CanGrow (edges_of nodes) p o t l) turned can) in
      let counted = subst (λ (k : ℕ). CanGrow (placed_next p o t e ∷ edges_of nodes) (o + 1) (o + 1) (t + k) (reverse rest)) (sym count) next in (
        add.1,
        subst (λ (l : List (Placed O)). CanGrow l (o + 1) (o + 1) (t + n) (reverse rest)) (sym add.0) counted,
        front_more first nodes new front add.2,
        ap (λ (l : List (Placed O)). grown l (o + 1) (o + 1) (t + n) (reverse rest)) add.0
            ∙ ap (λ (k : ℕ). grown (placed_next p o t e ∷ edges_of nodes) (o + 1) (o + 1) (t + k) (reverse rest)) count
            ∙ sym (ap (λ (l : List (Edge O)). grown (edges_of nodes) p o t l) turned) ∙ so_far,
      )

  -- ---- whole evolutions

  pub grown_can : (es : List (Placed O)) (p o t : ℕ) (edges : List (Edge O)) → CanGrow es p o t edges → (q : ℕ) × CanGrow (grown es p o t edges) q (o + length edges) (t + targets_in edges) []
  grown_can es p o t [] can =
      (p, subst (λ (k : ℕ). CanGrow es p k (t + 0) []) (omega arith) (subst (λ (k : ℕ). CanGrow es p o k []) (omega arith) can))
  grown_can es p o t (e ∷ edges) can =
      let rest = grown_can (placed_next p o t e ∷ es) (o + 1) (o + 1) (t + length e.targets) edges (can_next es p o t e edges can) in
      let a : o + 1 + length edges ≡ o + suc (length edges) = omega arith in
      let b : t + length e.targets + targets_in edges ≡ t + (length e.targets + targets_in edges) = omega arith in (
        rest.0,
        subst (λ (k : ℕ). CanGrow (grown es p o t (e ∷ edges)) rest.0 k (t + (length e.targets + targets_in edges)) []) a
            (subst (λ (k : ℕ). CanGrow (grown es p o t (e ∷ edges)) rest.0 (o + 1 + length edges) k []) b rest.1),
      )

  pub length_grown : (es : List (Placed O)) (p o t : ℕ) (edges : List (Edge O)) → length (grown es p o t edges) ≡ length es + length edges
  length_grown es p o t [] = omega arith
  length_grown es p o t (e ∷ edges) = let rest = length_grown (placed_next p o t e ∷ es) (o + 1) (o + 1) (t + length e.targets) edges in omega arith

  pub grown_stays : (es : List (Placed O)) (p o t : ℕ) (edges : List (Edge O)) (n : ℕ) → In n (numbers es) → In n (numbers (grown es p o t edges))
  grown_stays es p o t [] n i = i
  grown_stays es p o t (e ∷ edges) n i = grown_stays (placed_next p o t e ∷ es) (o + 1) (o + 1) (t + length e.targets) edges n (inr i)

  pub grown_last : (es : List (Placed O)) (p o t : ℕ) (edges : List (Edge O)) → 0 < length edges → In (o + length edges) (numbers (grown es p o t edges))
  grown_last es p o t [] some = absurd (omega arith)
  grown_last es p o t (e ∷ []) some = inl (omega arith)
  grown_last es p o t (e ∷ f ∷ edges) some =
      subst (λ (k : ℕ). In k (numbers (grown es p o t (e ∷ f ∷ edges)))) (omega arith) (grown_last (placed_next p o t e ∷ es) (o + 1) (o + 1) (t + length e.targets) (f ∷ edges) (omega arith))
