-- The last table number before each node: the place of a table, halved, and what keeps the numbers.
use Rattle.std.proofs.Common.{◌≡◌, ℕ, zero, suc, ◌+◌, ◌-◌, ◌<◌, ◌≤◌, List, [], ◌∷◌, ◌++◌, Bool, true, false, ltb, cond, length, get_or, take, drop, refl, sym, ap, ◌∙◌, subst, arith, inl, inr}
use Rattle.std.specs.Prelude.{Option, Some, None}
use Rattle.std.specs.List.Sorted.{IsNonDecreasingBy}
use Rattle.std.proofs.Math.Seq.{drop-append_seam}
use Rattle.std.proofs.lemmas.Bool.{ltb-true, ltb-false}
use Rattle.std.proofs.lemmas.List.{append_assoc, length-append, length-reverse, length-take-le, reverse-append, reverse-reverse, take_more}
use Rattle.std.proofs.lemmas.List.Sorted.{IsNonDecreasingBy-push, IsNonDecreasingBy-short}
use mathlib.Core.List.{reverse}
use Rattle.version_graph.specs.Sets.{In, Each}
use Rattle.version_graph.specs.Edges.{is_in}
use Rattle.version_graph.specs.Evolve.{grown, numbers_after, placed_next, targets_in}
use Rattle.version_graph.specs.Kept.{AreMarked, IsMarked, edges_of, placed_in, staying_nodes}
use Rattle.version_graph.specs.Calls.{AddsNode, IsPlaceBehind}
use Rattle.version_graph.specs.declared.parts.Edge.{Edge}
use Rattle.version_graph.specs.declared.parts.Placed.{Placed}
use Rattle.version_graph.specs.declared.node.Node.{Node}
use Rattle.version_graph.proofs.SetLaws.{each_at, each_more, each_of, in_left, in_of_test}
use Rattle.version_graph.proofs.TableLaws.{rises_above}
use Rattle.version_graph.proofs.NodeLaws.{find_past, first_maker}
use Rattle.version_graph.proofs.WalkStepLaws.{in_at, in_reverse}
use Rattle.version_graph.proofs.GrowLaws.{last_first, rises_after, top_after}
use Rattle.version_graph.proofs.BackLaws.{halves}
use Rattle.version_graph.proofs.HalvingLemmas.{none_found, stands_at}

-- each item behind a place stands at one from it on
stands_behind : {X : Type 0} (x : X) (p : ℕ) (xs : List X) (d : X) → In x (drop p xs) → (i : ℕ) × (p ≤ i) × (i < length xs) × (get_or xs i d ≡ x)
stands_behind x zero xs d i = let s = stands_at x xs d i in (s.0, omega arith, s.1, s.2)
stands_behind x (suc p) [] d i = absurd i
stands_behind x (suc p) (y ∷ ys) d i = let s = stands_behind x p ys d i in (suc s.0, omega (arith, s.1), omega (arith, s.2), s.3)

-- where the next numbers are above one, the last one given is not below it
low_before : {X : Type 0} (low t : ℕ) (xs : List X) → low ≤ t + length xs → Each (λ u. (low < u) × (u ≤ t + length xs)) (numbers_after t xs) → low ≤ t
low_before low t [] less each = omega (arith, less)
low_before low t (x ∷ xs) less each = let a = each.0.0 in omega arith

module _ {O : Type 0} where
  abbrev before_of : Node O → ℕ
  before_of k = k.last_before

  -- a greater last number
  pub marked_more : (ns : List (Node O)) (low high : ℕ) → low ≤ high → AreMarked low ns → AreMarked high ns
  marked_more [] low high less m = tt
  marked_more (n ∷ ns) low high less m = (
    record {
      before = omega (arith, less, m.0.before);
      tables = each_more (λ t. (n.last_before < t) × (t ≤ low)) (λ t. (n.last_before < t) × (t ≤ high)) (λ t h. (h.0, let a = h.1 in omega arith)) n.placed.tables m.0.tables;
    },
    m.1,
  )

  -- some of the nodes
  pub marked_stays : (ns : List (Node O)) (needed : List ℕ) (last : ℕ) → AreMarked last ns → AreMarked last (staying_nodes needed ns)
  marked_stays [] needed last m = tt
  marked_stays (k ∷ ns) needed last m =
      elim (is_in k.placed.number needed) as (λ c. AreMarked last (cond c (k ∷ staying_nodes (k.placed.parent ∷ needed) ns) (staying_nodes needed ns))) [
        | true ↦ (m.0, marked_stays ns (k.placed.parent ∷ needed) k.last_before m.1)
        | false ↦ marked_stays ns needed last (marked_more ns k.last_before last m.0.before m.1)
      ]

  -- ---- one node more

  pub marked_added : (nodes new : List (Node O)) (low high : ℕ) (e : Placed O) → AddsNode nodes low e new → AreMarked low (reverse nodes) → low ≤ high → Each (λ t. (low < t) × (t ≤ high)) e.tables → AreMarked high (reverse new)
  marked_added nodes new low high e a marked less tables =
      let n = a.0 in
      let turned : reverse new ≡ n ∷ reverse nodes = ap (λ (l : List (Node O)). reverse l) a.1 ∙ last_first nodes n in
      let is : low ≡ n.last_before = sym a.4 in
      subst (λ (l : List (Node O)). AreMarked high l) (sym turned) (
        record {
          before = omega (arith, less, is);
          tables = subst (λ (m : ℕ). Each (λ t. (m < t) × (t ≤ high)) n.placed.tables) is (subst (λ (f : Placed O). Each (λ t. (low < t) × (t ≤ high)) f.tables) (sym a.2) tables);
        },
        subst (λ (m : ℕ). AreMarked m (reverse nodes)) is marked,
      )

  next_tables : (t : ℕ) (e : Edge O) → Each (λ u. (t < u) × (u ≤ t + length e.targets)) (numbers_after t e.targets)
  next_tables t e =
      let ks = numbers_after t e.targets in
      each_of (λ u. (t < u) × (u ≤ t + length e.targets)) ks (λ u i. (rises_above t ks (rises_after t t e.targets (omega arith)) u i, each_at (λ u. u ≤ t + length e.targets) ks u i (top_after t e.targets)))

  -- one edge more of those that are left, the last of them first
  pub marked_step : (nodes new : List (Node O)) (left rest : List (Edge O)) (p o t n all : ℕ) (e : Edge O) → left ≡ rest ++ e ∷ [] → n ≡ length e.targets → AreMarked t (reverse nodes) → t + targets_in (reverse left) ≡ all → AddsNode nodes t (placed_next p o t e) new
      → AreMarked (t + n) (reverse new) × (t + n + targets_in (reverse rest) ≡ all)
  marked_step nodes new left rest p o t n all e is count marked so_far a =
      let turned : reverse left ≡ e ∷ reverse rest = ap (λ (l : List (Edge O)). reverse l) is ∙ last_first rest e in
      let more : t + (length e.targets + targets_in (reverse rest)) ≡ all = sym (ap (λ (l : List (Edge O)). t + targets_in l) turned) ∙ so_far in (
        subst (λ (k : ℕ). AreMarked (t + k) (reverse new)) (sym count) (marked_added nodes new t (t + length e.targets) (placed_next p o t e) a marked (omega arith) (next_tables t e)),
        omega (arith, count, more),
      )

  -- ---- an evolution taken back

  -- the nodes of the older edges
  record Front (ns : List (Node O)) (es : List (Placed O)) (t : ℕ) : Type 0 where
    newer : List (Node O)
    older : List (Node O)
    parts : ns ≡ newer ++ older
    placed : placed_in older ≡ es
    marked : AreMarked t older

  front_one : (ns newer older : List (Node O)) (es : List (Placed O)) (p o t : ℕ) (e : Edge O) → ns ≡ newer ++ older → placed_in older ≡ placed_next p o t e ∷ es → AreMarked (t + length e.targets) older → Front ns es t
  front_one ns newer [] es p o t e parts placed marked = cc
  front_one ns newer (k ∷ ks) es p o t e parts placed marked =
      let same : k.placed ≡ placed_next p o t e = cc in
      let rest : placed_in ks ≡ es = cc in
      let tables = subst (λ (f : Placed O). Each (λ u. (k.last_before < u) × (u ≤ t + length e.targets)) f.tables) same marked.0.tables in
      record {
        newer = newer ++ k ∷ [];
        older = ks;
        parts = parts ∙ sym (append_assoc newer (k ∷ []) ks);
        placed = rest;
        marked = marked_more ks k.last_before t (low_before k.last_before t e.targets marked.0.before tables) marked.1;
      }

  front_marked : (ns : List (Node O)) (es : List (Placed O)) (p o t : ℕ) (edges : List (Edge O)) → placed_in ns ≡ grown es p o t edges → AreMarked (t + targets_in edges) ns → Front ns es t
  front_marked ns es p o t [] is marked =
      let none : t + 0 ≡ t = omega arith in
      record { newer = []; older = ns; parts = refl; placed = is; marked = subst (λ (m : ℕ). AreMarked m ns) none marked }
  front_marked ns es p o t (e ∷ edges) is marked =
      let sum : t + (length e.targets + targets_in edges) ≡ t + length e.targets + targets_in edges = omega arith in
      let more = front_marked ns (placed_next p o t e ∷ es) (o + 1) (o + 1) (t + length e.targets) edges is (subst (λ (m : ℕ). AreMarked m ns) sum marked) in
      front_one ns more.newer more.older es p o t e more.parts more.placed more.marked

  pub marked_back : (nodes : List (Node O)) (k : ℕ) (es : List (Placed O)) (p o t : ℕ) (edges : List (Edge O)) → edges_of nodes ≡ grown es p o t edges → k ≡ length es → AreMarked (t + targets_in edges) (reverse nodes) → AreMarked t (reverse (take k nodes))
  marked_back nodes k es p o t edges is count marked =
      let f = front_marked (reverse nodes) es p o t edges is marked in
      let a = reverse (drop k nodes) in
      let b = reverse (take k nodes) in
      let both : a ++ b ≡ f.newer ++ f.older = sym (halves k nodes) ∙ f.parts in
      let long : length f.older ≡ length es = sym (Rattle.std.proofs.lemmas.List.length-map f.older (λ (n : Node O). n.placed)) ∙ ap length f.placed in
      let all : length nodes ≡ length f.newer + length f.older = sym (length-reverse nodes) ∙ ap length f.parts ∙ length-append f.newer f.older in
      let few : length b ≡ k = length-reverse (take k nodes) ∙ length-take-le k nodes (omega (arith, all, count, long)) in
      let sum : length a + length b ≡ length f.newer + length f.older = sym (length-append a b) ∙ ap length both ∙ length-append f.newer f.older in
      let same : length a ≡ length f.newer = omega (arith, sum, few, count, long) in
      let older : b ≡ f.older = sym (drop-append_seam a b) ∙ ap (λ (l : List (Node O)). drop (length a) l) both ∙ ap (λ (n : ℕ). drop n (f.newer ++ f.older)) same ∙ drop-append_seam f.newer f.older in
      subst (λ (l : List (Node O)). AreMarked t l) (sym older) f.marked

  -- ---- the maker of a table

  in_marked : (ns : List (Node O)) (last : ℕ) (u : Node O) → AreMarked last ns → In u ns → IsMarked last u
  in_marked [] last u m i = absurd i
  in_marked (n ∷ ns) last u m (inl e) = subst (λ (k : Node O). IsMarked last k) (sym e) m.0
  in_marked (n ∷ ns) last u m (inr i) = in_marked ns last u (marked_more ns n.last_before last m.0.before m.1) i

  marked_ends : (xs ys : List (Node O)) (last : ℕ) → AreMarked last (xs ++ ys) → (m : ℕ) × AreMarked m ys
  marked_ends [] ys last m = (last, m)
  marked_ends (x ∷ xs) ys last m = marked_ends xs ys x.last_before m.1

  rising : (ns : List (Node O)) (last : ℕ) → AreMarked last ns → IsNonDecreasingBy before_of (reverse ns)
  rising [] last marked = IsNonDecreasingBy-short before_of [] (omega arith)
  rising (k ∷ ns) last marked =
      subst (λ (l : List (Node O)). IsNonDecreasingBy before_of l) (sym (reverse-append (k ∷ []) ns))
      (IsNonDecreasingBy-push before_of (reverse ns) k (rising ns k.last_before marked.1) (λ d some.
      let m = get_or (reverse ns) (length (reverse ns) - 1) d in
      let here = in_at (reverse ns) (length (reverse ns) - 1) d (omega arith) in
      let there = subst (λ (l : List (Node O)). In m l) (reverse-reverse ns) (in_reverse m (reverse ns) here) in
      (in_marked ns k.last_before m marked.1 there).before))

  -- the marks of ascending nodes don't fall
  pub rising_marks : (nodes : List (Node O)) (last : ℕ) → AreMarked last (reverse nodes) → IsNonDecreasingBy before_of nodes
  rising_marks nodes last marked = subst (λ (l : List (Node O)). IsNonDecreasingBy before_of l) (reverse-reverse nodes) (rising (reverse nodes) last marked)

  -- the place that halving finds
  pub place_behind : (nodes : List (Node O)) (table place : ℕ) → place ≤ length nodes → ((i : ℕ) (k : Node O) → 0 ≤ i → i < place → ltb (get_or nodes i k).last_before table ≡ true)
      → ((i : ℕ) (k : Node O) → place ≤ i → i < length nodes → ltb (get_or nodes i k).last_before table ≡ false) → IsPlaceBehind nodes table place
  place_behind nodes table place within below above = record {
    within = within;
    older = λ i k less. ltb-true (get_or nodes i k).last_before table (below i k (omega arith) less);
    others = λ i k low less. ltb-false (get_or nodes i k).last_before table (above i k low less);
  }

  -- a table was given between the numbers of its node
  given : (u : Node O) (last t : ℕ) → IsMarked last u → is_in t u.placed.tables ≡ true → (u.last_before < t) × (t ≤ last)
  given u last t m e = each_at (λ k. (u.last_before < k) × (k ≤ last)) u.placed.tables t (in_of_test t u.placed.tables e) m.tables

  -- older nodes made no later table
  none_older : (ns : List (Node O)) (last t : ℕ) → AreMarked last ns → last < t → first_maker ns t ≡ None
  none_older ns last t m less = none_found (λ (k : Node O). is_in t k.placed.tables) ns (λ u i e. let b = (given u last t (in_marked ns last u m i) e).1 in omega arith)

  -- and newer ones no earlier table
  none_newer : (xs ys : List (Node O)) (last t : ℕ) → AreMarked last (xs ++ ys) → ((u : Node O) → In u xs → t ≤ u.last_before) → first_maker xs t ≡ None
  none_newer xs ys last t m low =
      none_found (λ (k : Node O). is_in t k.placed.tables) xs (λ u i e.
      let b = (given u last t (in_marked (xs ++ ys) last u m (in_left u xs ys i)) e).0 in
      let a = low u i in
      omega arith)

  newer_low : (nodes : List (Node O)) (t place : ℕ) → IsPlaceBehind nodes t place → (u : Node O) → In u (reverse (drop place nodes)) → t ≤ u.last_before
  newer_low nodes t place at u i =
      let j = subst (λ (l : List (Node O)). In u l) (reverse-reverse (drop place nodes)) (in_reverse u (reverse (drop place nodes)) i) in
      let s = stands_behind u place nodes u j in
      subst (λ (k : Node O). t ≤ k.last_before) s.3 (at.others s.0 u s.1 s.2)

  -- before the first node no table was given
  pub none_first : (nodes : List (Node O)) (last t place : ℕ) → AreMarked last (reverse nodes) → IsPlaceBehind nodes t place → place ≡ 0 → first_maker (reverse nodes) t ≡ None
  none_first nodes last t place marked at first =
      let all = subst (λ (p : ℕ). IsPlaceBehind nodes t p) first at in
      none_found (λ (k : Node O). is_in t k.placed.tables) (reverse nodes) (λ u i e.
      let b = (given u last t (in_marked (reverse nodes) last u marked i) e).0 in
      let a = newer_low nodes t 0 all u i in
      omega arith)

  -- the last node before the place is the maker, or none is
  pub maker_here : (nodes : List (Node O)) (last t place : ℕ) (k : Node O) (b : Bool) → AreMarked last (reverse nodes) → IsPlaceBehind nodes t place → (place ≡ 0 → ⊥) → k ≡ get_or nodes (place - 1) k → is_in t k.placed.tables ≡ b → first_maker (reverse nodes) t ≡ cond b (Some k) None
  maker_here nodes last t place k b marked at some is test =
      let at_least : 0 < place = omega (arith, some) in
      let within : place - 1 < length nodes = omega (arith, at_least, at.within) in
      let next : place ≡ place - 1 + 1 = omega (arith, at_least) in
      let older = reverse (take (place - 1) nodes) in
      let newer = reverse (drop place nodes) in
      let front : take place nodes ≡ take (place - 1) nodes ++ k ∷ [] = ap (λ (p : ℕ). take p nodes) next ∙ take_more nodes (place - 1) k within ∙ ap (λ (m : Node O). take (place - 1) nodes ++ m ∷ []) (sym is) in
      let turned : reverse nodes ≡ newer ++ k ∷ older = halves place nodes ∙ ap (λ (l : List (Node O)). newer ++ reverse l) front ∙ ap (λ (l : List (Node O)). newer ++ l) (last_first (take (place - 1) nodes) k) in
      let all = subst (λ (l : List (Node O)). AreMarked last l) turned marked in
      let ends = marked_ends newer (k ∷ older) last all in
      let low : k.last_before < t = subst (λ (m : Node O). m.last_before < t) (sym is) (at.older (place - 1) k (omega (arith, at_least))) in
      ap (λ (l : List (Node O)). first_maker l t) turned
      ∙ find_past (λ (m : Node O). is_in t m.placed.tables) newer (k ∷ older) (none_newer newer (k ∷ older) last t all (newer_low nodes t place at))
      ∙ ap (λ (c : Bool). cond c (Some k) (first_maker older t)) test
      ∙ ap (λ (o : Option (Node O)). cond b (Some k) o) (none_older older k.last_before t ends.1.1 low)
