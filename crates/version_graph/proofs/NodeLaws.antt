-- What the nodes say of the edges, the newest first.
use Rattle.std.proofs.Common.{◌≡◌, ℕ, zero, suc, ◌<◌, List, [], ◌∷◌, ◌++◌, Bool, true, false, cond, refl, sym, ap, ◌∙◌, subst, length, arith, inl, inr}
use Rattle.std.specs.Prelude.{◌==◌, ◌||◌, Option, Some, None, option_map, option_and_then, slice_get, unwrap_or}
use Rattle.std.specs.List.{find}
use Rattle.std.proofs.lemmas.Bool.{eq-eqb, ne_eqb, cond-true, cond-false, cases_eq}
use Rattle.std.proofs.lemmas.List.{reverse-reverse, reverse-append, map-append}
use mathlib.Core.List.{reverse}
use Rattle.version_graph.specs.Sets.{In, Each}
use Rattle.version_graph.proofs.SetLaws.{each_at}
use Rattle.version_graph.specs.Tables.{TableVersion, table_numbers, tables_of}
use Rattle.version_graph.specs.Edges.{AreEdges, numbers, working, set_after, sources_of, edge_of, sources_at, tables_at, maker_of, heading_of, is_in, made, made_by_edge, version_sets, set_named}
use Rattle.version_graph.specs.Forest.{forest, tree}
use Rattle.version_graph.specs.Kept.{tree_on, placed_in, AreRight, heading_in}
use Rattle.version_graph.specs.declared.parts.Placed.{Placed}
use Rattle.version_graph.specs.declared.parts.Heading.{Heading}
use Rattle.version_graph.specs.declared.node.Node.{Node}

-- the first node of an operator
abbrev pub first_node : {O : Type 0} → List (Node O) → ℕ → Option (Node O)
first_node {O} ns n = find (λ (k : Node O). n == k.placed.number) ns

-- the first node that made a table
abbrev pub first_maker : {O : Type 0} → List (Node O) → ℕ → Option (Node O)
first_maker {O} ns t = find (λ (k : Node O). is_in t k.placed.tables) ns

pub find_append : {X : Type 0} (test : X → Bool) (xs ys : List X) (x : X) → find test xs ≡ Some x → find test (xs ++ ys) ≡ Some x
find_append test [] ys x e = cc
find_append test (z ∷ xs) ys x e =
    let M : Bool → Type 0 = λ b. cond b (Some z) (find test xs) ≡ Some x → cond b (Some z) (find test (xs ++ ys)) ≡ Some x in
    (elim (test z) as (λ b. M b) [ true ↦ λ h. h | false ↦ λ h. find_append test xs ys x h ]) e

pub find_past : {X : Type 0} (test : X → Bool) (xs ys : List X) → find test xs ≡ None → find test (xs ++ ys) ≡ find test ys
find_past test [] ys e = refl
find_past test (z ∷ xs) ys e =
    let M : Bool → Type 0 = λ b. cond b (Some z) (find test xs) ≡ None → cond b (Some z) (find test (xs ++ ys)) ≡ find test ys in
    (elim (test z) as (λ b. M b) [ true ↦ λ h. cc | false ↦ λ h. find_past test xs ys h ]) e

-- a table among those of an edge
found_at : (t n : ℕ) (ns : List ℕ) (h : Heading) (hs : List Heading) (b : Bool) → (is_in t ns ≡ true → (v : TableVersion) × (find (λ (v : TableVersion). t == v.number) (tables_of ns hs) ≡ Some v)) → (b || is_in t ns) ≡ true
    → (v : TableVersion) × (cond b (Some (record { number = n; heading = h })) (find (λ (v : TableVersion). t == v.number) (tables_of ns hs)) ≡ Some v)
found_at t n ns h hs true more e = (record { number = n; heading = h }, refl)
found_at t n ns h hs false more e = more e

pub found_among : (t : ℕ) (ns : List ℕ) (hs : List Heading) → length ns ≡ length hs → is_in t ns ≡ true → (v : TableVersion) × (find (λ (v : TableVersion). t == v.number) (tables_of ns hs) ≡ Some v)
found_among t [] hs same e = cc
found_among t (n ∷ ns) [] same e = absurd (omega arith)
found_among t (n ∷ ns) (h ∷ hs) same e = found_at t n ns h hs (t == n) (found_among t ns hs (omega arith)) e

pub none_among : (t : ℕ) (ns : List ℕ) (hs : List Heading) → is_in t ns ≡ false → find (λ (v : TableVersion). t == v.number) (tables_of ns hs) ≡ None
none_among t [] hs e = refl
none_among t (n ∷ ns) [] e = refl
none_among t (n ∷ ns) (h ∷ hs) e =
    (elim (t == n) as (λ b. (b || is_in t ns) ≡ false → cond b (Some (record { number = n; heading = h })) (find (λ (v : TableVersion). t == v.number) (tables_of ns hs)) ≡ None) [
      | true ↦ λ f. cc
      | false ↦ λ f. none_among t ns hs f
    ]) e

module _ {O : Type 0} where
  pub edge_of_node : (ns : List (Node O)) (n : ℕ) → edge_of (placed_in ns) n ≡ option_map (λ k. k.placed) (first_node ns n)
  edge_of_node [] n = refl
  edge_of_node (k ∷ ns) n =
      elim (n == k.placed.number) as (λ b. cond b (Some k.placed) (edge_of (placed_in ns) n) ≡ option_map (λ (m : Node O). m.placed) (cond b (Some k) (first_node ns n))) [
        | true ↦ refl
        | false ↦ edge_of_node ns n
      ]

  pub sources_of_node : (ns : List (Node O)) → AreRight ns → (n : ℕ) → sources_at (placed_in ns) n ≡ option_map (λ k. k.sources) (first_node ns n)
  sources_of_node [] right n = refl
  sources_of_node (k ∷ ns) right n =
      elim (n == k.placed.number) as (λ b. cond b (Some (table_numbers (sources_of (placed_in ns) k.placed))) (sources_at (placed_in ns) n) ≡ option_map (λ (m : Node O). m.sources) (cond b (Some k) (first_node ns n))) [
        | true ↦ ap (λ (l : List ℕ). Some l) (sym right.0.sources)
        | false ↦ sources_of_node ns right.1 n
      ]

  pub set_of_node : (ns : List (Node O)) → AreRight ns → (w : ℕ) → option_map (λ e. table_numbers (working (placed_in ns) w)) (edge_of (placed_in ns) w) ≡ option_map (λ k. k.set) (first_node ns w)
  set_of_node [] right w = refl
  set_of_node (k ∷ ns) right w =
      let es = placed_in ns in
      elim (w == k.placed.number) as (λ b. option_map (λ (e : Placed O). table_numbers (cond b (set_after (working es k.placed.parent) k.placed) (working es w))) (cond b (Some k.placed) (edge_of es w)) ≡ option_map (λ (m : Node O). m.set) (cond b (Some k) (first_node ns w))) [
        | true ↦ ap (λ (l : List ℕ). Some l) (sym right.0.set)
        | false ↦ set_of_node ns right.1 w
      ]

  pub maker_of_node : (ns : List (Node O)) (t : ℕ) → maker_of (placed_in ns) t ≡ option_map (λ k. k.placed.number) (first_maker ns t)
  maker_of_node [] t = refl
  maker_of_node (k ∷ ns) t =
      elim (is_in t k.placed.tables) as (λ b. option_map (λ (e : Placed O). e.number) (cond b (Some k.placed) (find (λ (e : Placed O). is_in t e.tables) (placed_in ns))) ≡ option_map (λ (m : Node O). m.placed.number) (cond b (Some k) (first_maker ns t))) [
        | true ↦ refl
        | false ↦ maker_of_node ns t
      ]

  heading_here : (ns : List (Node O)) (k : Node O) (t : ℕ) (b : Bool) → is_in t k.placed.tables ≡ b → length k.placed.tables ≡ length k.placed.edge.targets → heading_of (placed_in ns) t ≡ option_and_then (λ (m : Node O). heading_in m.placed t) (first_maker ns t)
      → heading_of (placed_in (k ∷ ns)) t ≡ option_and_then (λ (m : Node O). heading_in m.placed t) (cond b (Some k) (first_maker ns t))
  heading_here ns k t true is counted more =
      let f = found_among t k.placed.tables k.placed.edge.targets counted is in
      ap (option_map (λ (v : TableVersion). v.heading)) (find_append (λ (v : TableVersion). t == v.number) (made_by_edge k.placed) (made (placed_in ns)) f.0 f.1 ∙ sym f.1)
  heading_here ns k t false is counted more =
      ap (option_map (λ (v : TableVersion). v.heading)) (find_past (λ (v : TableVersion). t == v.number) (made_by_edge k.placed) (made (placed_in ns)) (none_among t k.placed.tables k.placed.edge.targets is)) ∙ more

  pub heading_of_node : (ns : List (Node O)) → AreEdges (placed_in ns) → (t : ℕ) → heading_of (placed_in ns) t ≡ option_and_then (λ k. heading_in k.placed t) (first_maker ns t)
  heading_of_node [] edges t = refl
  heading_of_node (k ∷ ns) edges t = heading_here ns k t (is_in t k.placed.tables) refl edges.0.counted (heading_of_node ns edges.1 t)

  counted_one : (ns : List (Node O)) (k m : Node O) (t : ℕ) (b : Bool) → length k.placed.tables ≡ length k.placed.edge.targets → (first_maker ns t ≡ Some m → length m.placed.tables ≡ length m.placed.edge.targets) → cond b (Some k) (first_maker ns t) ≡ Some m → length m.placed.tables ≡ length m.placed.edge.targets
  counted_one ns k m t true counted more e = let same : k ≡ m = cc in subst (λ (x : Node O). length x.placed.tables ≡ length x.placed.edge.targets) same counted
  counted_one ns k m t false counted more e = more e

  -- the maker has a number for each of its targets
  pub counted_maker : (ns : List (Node O)) → AreEdges (placed_in ns) → (t : ℕ) (m : Node O) → first_maker ns t ≡ Some m → length m.placed.tables ≡ length m.placed.edge.targets
  counted_maker [] edges t m e = cc
  counted_maker (k ∷ ns) edges t m e = counted_one ns k m t (is_in t k.placed.tables) edges.0.counted (counted_maker ns edges.1 t m) e

  reverse_placed : (ns : List (Node O)) → reverse (placed_in ns) ≡ placed_in (reverse ns)
  reverse_placed [] = refl
  reverse_placed (k ∷ ns) =
      reverse-append (k.placed ∷ []) (placed_in ns) ∙ ap (λ (es : List (Placed O)). es ++ (k.placed ∷ [])) (reverse_placed ns) ∙ sym (map-append (λ (m : Node O). m.placed) (reverse ns) (k ∷ []))
      ∙ ap (λ (l : List (Node O)). placed_in l) (sym (reverse-append (k ∷ []) ns))

  at_place : (ns : List (Node O)) (i : ℕ) → slice_get (placed_in ns) i ≡ option_map (λ k. k.placed) (slice_get ns i)
  at_place [] i = refl
  at_place (k ∷ ns) zero = refl
  at_place (k ∷ ns) (suc i) = at_place ns i

  -- the edges from the oldest on
  pub edge_of_place : (ns : List (Node O)) (i : ℕ) → slice_get (reverse (placed_in (reverse ns))) i ≡ option_map (λ k. k.placed) (slice_get ns i)
  edge_of_place ns i =
      ap (λ (es : List (Placed O)). slice_get es i) (reverse_placed (reverse ns) ∙ ap (λ (l : List (Node O)). placed_in l) (reverse-reverse ns)) ∙ at_place ns i

  reverse_numbers : (es : List (Placed O)) → reverse (numbers es) ≡ numbers (reverse es)
  reverse_numbers [] = refl
  reverse_numbers (e ∷ es) =
      reverse-append (e.number ∷ []) (numbers es) ∙ ap (λ (l : List ℕ). l ++ (e.number ∷ [])) (reverse_numbers es) ∙ sym (numbers_behind (reverse es) e)
      ∙ ap (λ (l : List (Placed O)). numbers l) (sym (reverse-append (e ∷ []) es))
    where
      numbers_behind : (fs : List (Placed O)) (e : Placed O) → numbers (fs ++ e ∷ []) ≡ numbers fs ++ e.number ∷ []
      numbers_behind [] e = refl
      numbers_behind (f ∷ fs) e = ap (λ (l : List ℕ). f.number ∷ l) (numbers_behind fs e)

  number_there : (es : List (Placed O)) (i : ℕ) → slice_get (numbers es) i ≡ option_map (λ (e : Placed O). e.number) (slice_get es i)
  number_there [] i = refl
  number_there (e ∷ es) zero = refl
  number_there (e ∷ es) (suc i) = number_there es i

  -- the operators from the oldest on
  pub number_place : (es : List (Placed O)) (i : ℕ) (o : Option (Placed O)) → o ≡ slice_get (reverse es) i → option_map (λ (e : Placed O). e.number) o ≡ slice_get (reverse (numbers es)) i
  number_place es i o e =
      ap (option_map (λ (e : Placed O). e.number)) e ∙ sym (number_there (reverse es) i) ∙ ap (λ (l : List ℕ). slice_get l i) (sym (reverse_numbers es))

  pub not_zero : (es : List (Placed O)) (w : ℕ) → (w ≡ 0 → ⊥) → tables_at es w ≡ option_map (λ e. table_numbers (working es w)) (edge_of es w)
  not_zero es w other = cond-false (w == 0) (Some []) (option_map (λ (e : Placed O). table_numbers (working es w)) (edge_of es w)) (ne_eqb w 0 other)

  -- ---- live numbers

  pub live_edge : (es : List (Placed O)) (n : ℕ) → In n (numbers es) → (e : Placed O) × (edge_of es n ≡ Some e)
  live_edge [] n i = absurd i
  live_edge (e ∷ es) n (inl same) = (e, cond-true (n == e.number) (Some e) (edge_of es n) (eq-eqb n e.number same))
  live_edge (e ∷ es) n (inr i) =
      elim (n == e.number) as (λ b. (f : Placed O) × (cond b (Some e) (edge_of es n) ≡ Some f)) [ true ↦ (e, refl) | false ↦ live_edge es n i ]

  pub above_zero : (es : List (Placed O)) → AreEdges es → (n : ℕ) → In n (numbers es) → 0 < n
  above_zero [] edges n i = absurd i
  above_zero (e ∷ es) edges n (inl same) = let less = edges.0.newest 0 (inl refl) in omega arith
  above_zero (e ∷ es) edges n (inr i) = above_zero es edges.1 n i

  -- ---- working sets

  working_none : (es : List (Placed O)) (w : ℕ) → edge_of es w ≡ None → working es w ≡ []
  working_none [] w e = refl
  working_none (f ∷ es) w e =
      (elim (w == f.number) as (λ b. cond b (Some f) (edge_of es w) ≡ None → cond b (set_after (working es f.parent) f) (working es w) ≡ []) [
        | true ↦ λ h. cc
        | false ↦ λ h. working_none es w h
      ]) e

  working_zero : (es : List (Placed O)) → AreEdges es → working es 0 ≡ []
  working_zero [] edges = refl
  working_zero (e ∷ es) edges =
      let less = edges.0.newest 0 (inl refl) in
      cond-false (0 == e.number) (set_after (working es e.parent) e) (working es 0) (ne_eqb 0 e.number (λ z. omega arith)) ∙ working_zero es edges.1

  either_way : (es : List (Placed O)) (w : ℕ) (o : Option (Placed O)) → edge_of es w ≡ o → unwrap_or (option_map (λ (e : Placed O). table_numbers (working es w)) o) [] ≡ table_numbers (working es w)
  either_way es w None e = ap (λ (s : List TableVersion). table_numbers s) (sym (working_none es w e))
  either_way es w (Some f) e = refl

  -- the tables of a working set, if any
  pub tables_or_none : (es : List (Placed O)) → AreEdges es → (w : ℕ) → unwrap_or (tables_at es w) [] ≡ table_numbers (working es w)
  tables_or_none es edges w =
      elim (cases_eq w 0) as (λ _. unwrap_or (tables_at es w) [] ≡ table_numbers (working es w)) [
        | inl z ↦ subst (λ (n : ℕ). unwrap_or (tables_at es n) [] ≡ table_numbers (working es n)) (sym z) (ap (λ (s : List TableVersion). table_numbers s) (sym (working_zero es edges)))
        | inr other ↦ ap (λ (o : Option (List ℕ)). unwrap_or o []) (not_zero es w other) ∙ either_way es w (edge_of es w) refl
      ]

  -- ---- trees

  tree_one : (ns : List (Node O)) (k m : Node O) (w : ℕ) (b : Bool) → k.tree ≡ tree_on (placed_in ns) k.placed → (first_node ns w ≡ Some m → tree (forest (placed_in ns)) w ≡ m.tree) → cond b (Some k) (first_node ns w) ≡ Some m → cond b (tree_on (placed_in ns) k.placed) (tree (forest (placed_in ns)) w) ≡ m.tree
  tree_one ns k m w true is more e = let same : k ≡ m = cc in sym is ∙ ap (λ (n : Node O). n.tree) same
  tree_one ns k m w false is more e = more e

  pub tree_of_node : (ns : List (Node O)) → AreRight ns → (w : ℕ) (m : Node O) → first_node ns w ≡ Some m → tree (forest (placed_in ns)) w ≡ m.tree
  tree_of_node [] right w m e = cc
  tree_of_node (k ∷ ns) right w m e = tree_one ns k m w (w == k.placed.number) right.0.tree (tree_of_node ns right.1 w m) e

  -- a live operator has a node
  pub has_node : (ns : List (Node O)) (n : ℕ) → In n (0 ∷ numbers (placed_in ns)) → (n ≡ 0 → ⊥) → first_node ns n ≡ None → ⊥
  has_node ns n (inl z) other e = other z
  has_node ns n (inr i) other e =
      let here = live_edge (placed_in ns) n i in
      let there = edge_of_node ns n ∙ ap (option_map (λ (k : Node O). k.placed)) e in
      let clash : Some here.0 ≡ None = sym here.1 ∙ there in
      cc

pub set_listed : (versions : List (List ℕ × ℕ)) (name : List ℕ) (w : ℕ) → set_named versions name ≡ Some w → In w (version_sets versions)
set_listed [] name w e = cc
set_listed (v ∷ versions) name w e =
    (elim (Rattle.std.specs.Str.bytes_eq name v.0) as (λ b. cond b (Some v.1) (set_named versions name) ≡ Some w → In w (version_sets (v ∷ versions))) [
      | true ↦ λ f. inl (let same : v.1 ≡ w = cc in sym same)
      | false ↦ λ f. inr (set_listed versions name w f)
    ]) e

-- the tables of a live version are those of its working set
pub version_tables : {O : Type 0} (es : List (Placed O)) (versions : List (List ℕ × ℕ)) (name : List ℕ) (w : ℕ) → AreEdges es → Each (λ n. In n (numbers es)) (version_sets versions) → set_named versions name ≡ Some w → tables_at es w ≡ Some (table_numbers (working es w))
version_tables {O} es versions name w edges named found =
    let live = each_at (λ n. In n (numbers es)) (version_sets versions) w (set_listed versions name w found) named in
    let more = above_zero es edges w live in
    let here = live_edge es w live in
    not_zero es w (λ z. omega arith) ∙ ap (option_map (λ (e : Placed O). table_numbers (working es w))) here.1
