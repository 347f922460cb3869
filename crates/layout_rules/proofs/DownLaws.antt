-- Passes over the operators from the newest on.
use Rattle.std.specs.Prelude.{◌≤◌, ◌<◌, ◌==◌, ◌&&◌, ◌||◌, if◌then◌else◌, Option, Some, None, option_map, option_to_list, slice_get, ⊤}
use Rattle.std.proofs.Common.{◌≡◌, ℕ, suc, ◌+◌, ◌-◌, List, [], ◌∷◌, ◌++◌, Bool, true, false, not, cond, map, length, take, drop, inl, inr, refl, sym, ap, ◌∙◌, subst, arith}
use Rattle.std.proofs.lemmas.Bool.{cond-false, cond-true, eq-eqb, eqb-true, ne_eqb}
use Rattle.std.proofs.lemmas.List.{append_assoc, append-nil, length-reverse, map-append, reverse-append, reverse-reverse, take-append-drop, take_all}
use Rattle.std.proofs.lemmas.Option.{slice_get-map}
use mathlib.Core.List.{reverse}
use Rattle.version_graph.specs.Sets.{In}
use Rattle.version_graph.specs.Edges.{AreEdges}
use Rattle.version_graph.specs.Forest.{Link, forest, link, tree}
use Rattle.version_graph.specs.declared.parts.Placed.{Placed}
use Rattle.version_graph.proofs.WalkLaws.{Fits, IsForest, is_forest, link_numbers}
use Rattle.version_graph.proofs.WalkStepLaws.{in_reverse}
use Rattle.layout_rules.specs.Changes.{is_empty}
use Rattle.layout_rules.specs.Passes.{meet, needed}
use Rattle.layout_rules.specs.Lookups.{climbed, in_trees, is_needed, needed_with, sources_or_none, tables_with}
use Rattle.layout_rules.proofs.LookupLaws.{sources_link}
use Rattle.layout_rules.proofs.PassLaws.{got_in, reverse_next, take_next}

-- ---- the link at a place

reverse_map : {X Y : Type 0} (f : X → Y) (xs : List X) → reverse (map f xs) ≡ map f (reverse xs)
reverse_map f [] = refl
reverse_map {X} {Y} f (x ∷ xs) =
    reverse_next (f x) (map f xs) ∙ ap (λ (l : List Y). l ++ f x ∷ []) (reverse_map f xs)
    ∙ sym (ap (map f) (reverse_next x xs) ∙ map-append f (reverse xs) (x ∷ []))

module _ {O : Type 0} where
  -- the edges with their links
  abbrev linked : List (Placed O) → List (Placed O × Link O)
  linked [] = []
  linked (e ∷ es) = (e, link es e) ∷ linked es

  edges_linked : (es : List (Placed O)) → map (λ (p : Placed O × Link O). p.0) (linked es) ≡ es
  edges_linked [] = refl
  edges_linked (e ∷ es) = ap (λ (l : List (Placed O)). e ∷ l) (edges_linked es)

  links_linked : (es : List (Placed O)) → map (λ (p : Placed O × Link O). p.1) (linked es) ≡ forest es
  links_linked [] = refl
  links_linked (e ∷ es) = ap (λ (l : List (Link O)). link es e ∷ l) (links_linked es)

  abbrev pub SameSides : Placed O → Link O → Type 0
  SameSides e f = (e.number ≡ f.number) × (e.parent ≡ f.parent) × (e.tables ≡ f.targets)

  sides_linked : (es : List (Placed O)) (p : Placed O × Link O) → In p (linked es) → SameSides p.0 p.1
  sides_linked [] p i = absurd i
  sides_linked (e ∷ es) p (inl same) = subst (λ (q : Placed O × Link O). SameSides q.0 q.1) (sym same) (refl, refl, refl)
  sides_linked (e ∷ es) p (inr i) = sides_linked es p i

  abbrev pub Beside : Option (Placed O) → Option (Link O) → Type 0
  Beside None None = ⊤
  Beside None (Some f) = ⊥
  Beside (Some e) None = ⊥
  Beside (Some e) (Some f) = SameSides e f

  beside_one : (es : List (Placed O)) (i : ℕ) (o : Option (Placed O × Link O)) → o ≡ slice_get (reverse (linked es)) i → Beside (option_map (λ (p : Placed O × Link O). p.0) o) (option_map (λ (p : Placed O × Link O). p.1) o)
  beside_one es i None got = tt
  beside_one es i (Some p) got = sides_linked es p (subst (λ (l : List (Placed O × Link O)). In p l) (reverse-reverse (linked es)) (in_reverse p (reverse (linked es)) (got_in (reverse (linked es)) i p got)))

  pub beside : (es : List (Placed O)) (i : ℕ) → Beside (slice_get (reverse es) i) (slice_get (reverse (forest es)) i)
  beside es i =
      let a : option_map (λ (p : Placed O × Link O). p.0) (slice_get (reverse (linked es)) i) ≡ slice_get (reverse es) i =
      sym (slice_get-map (λ (p : Placed O × Link O). p.0) (reverse (linked es)) i) ∙ ap (λ (l : List (Placed O)). slice_get l i) (sym (reverse_map (λ (p : Placed O × Link O). p.0) (linked es)) ∙ ap (λ (l : List (Placed O)). reverse l) (edges_linked es)) in
      let b : option_map (λ (p : Placed O × Link O). p.1) (slice_get (reverse (linked es)) i) ≡ slice_get (reverse (forest es)) i =
      sym (slice_get-map (λ (p : Placed O × Link O). p.1) (reverse (linked es)) i) ∙ ap (λ (l : List (Link O)). slice_get l i) (sym (reverse_map (λ (p : Placed O × Link O). p.1) (linked es)) ∙ ap (λ (l : List (Link O)). reverse l) (links_linked es)) in
      subst (λ (o : Option (Link O)). Beside (slice_get (reverse es) i) o) b (subst (λ (o : Option (Placed O)). Beside o (option_map (λ (p : Placed O × Link O). p.1) (slice_get (reverse (linked es)) i))) a (beside_one es i (slice_get (reverse (linked es)) i) refl))

  -- ---- the links below a place, the newest first

  abbrev pub below : List (Placed O) → ℕ → List (Link O)
  below es left = reverse (take left (reverse (forest es)))

  length_links : (fs : List (Placed O)) → length (forest fs) ≡ length fs
  length_links [] = refl
  length_links (e ∷ fs) = ap suc (length_links fs)

  pub below_past : (es : List (Placed O)) (left count : ℕ) → count ≡ length es → count ≤ left → below es left ≡ forest es
  below_past es left count is past =
      let long : length (reverse (forest es)) ≡ length es = length-reverse (forest es) ∙ length_links es in
      ap (λ (l : List (Link O)). reverse l) (take_all left (reverse (forest es)) (omega (arith, long, is, past))) ∙ reverse-reverse (forest es)

  pub below_all : (es : List (Placed O)) (left : ℕ) → left ≡ length es → below es left ≡ forest es
  below_all es left is = below_past es left left is (omega arith)

  pub link_listed : (es : List (Placed O)) (i : ℕ) (f : Link O) → Some f ≡ slice_get (reverse (forest es)) i → In f (forest es)
  link_listed es i f got = subst (λ (l : List (Link O)). In f l) (reverse-reverse (forest es)) (in_reverse f (reverse (forest es)) (got_in (reverse (forest es)) i f got))

  pub below_next : (es : List (Placed O)) (i : ℕ) (o : Option (Link O)) → o ≡ slice_get (reverse (forest es)) i → below es (i + 1) ≡ option_to_list o ++ below es i
  below_next es i None got = ap (λ (l : List (Link O)). reverse l) (take_next (reverse (forest es)) i None got ∙ append-nil (take i (reverse (forest es))))
  below_next es i (Some f) got = ap (λ (l : List (Link O)). reverse l) (take_next (reverse (forest es)) i (Some f) got) ∙ reverse-append (take i (reverse (forest es))) (f ∷ [])

  pub forest_end : (xs ys : List (Link O)) → IsForest (xs ++ ys) → IsForest ys
  forest_end [] ys h = h
  forest_end (x ∷ xs) ys h = forest_end xs ys h.1

  below_forest : (es : List (Placed O)) → AreEdges es → (left : ℕ) → IsForest (below es left)
  below_forest es edges left =
      let all = reverse (forest es) in
      forest_end (reverse (drop left all)) (below es left)
      (subst (λ (l : List (Link O)). IsForest l) (sym (reverse-reverse (forest es)) ∙ sym (ap (λ (l : List (Link O)). reverse l) (take-append-drop left all)) ∙ reverse-append (take left all) (drop left all)) (is_forest es edges))

  -- ---- one step of the way up

  root_alone : (es : List (Link O)) (w : ℕ) → (In w (link_numbers es) → ⊥) → tree es w ≡ w
  root_alone [] w none = refl
  root_alone (f ∷ es) w none = cond-false (w == f.number) (cond (f.parent == 0) f.number (tree es f.parent)) (tree es w) (ne_eqb w f.number (λ same. none (inl same))) ∙ root_alone es w (λ i. none (inr i))

  climb : (fs : List (Link O)) (e : Placed O) (f : Link O) (at : ℕ) (a b : Bool) → (at == e.number) ≡ a → (e.parent == 0) ≡ b → SameSides e f → Fits fs f → tree fs (if a && not b then e.parent else at) ≡ tree (f ∷ fs) at
  climb fs e f at true b is root same fit =
      let at_it = eqb-true at e.number is ∙ same.0 in
      let here = cond-true (at == f.number) (cond (f.parent == 0) f.number (tree fs f.parent)) (tree fs at) (eq-eqb at f.number at_it) in
      let parent : (f.parent == 0) ≡ b = ap (λ (n : ℕ). n == 0) (sym same.1) ∙ root in
      one b parent ∙ sym here
    where
      one : (b : Bool) → (f.parent == 0) ≡ b → tree fs (if true && not b then e.parent else at) ≡ cond (f.parent == 0) f.number (tree fs f.parent)
      one true p =
          let at_it = eqb-true at e.number is ∙ same.0 in
          root_alone fs at (λ i. let less = fit.newest at (inr i) in omega arith) ∙ at_it ∙ sym (cond-true (f.parent == 0) f.number (tree fs f.parent) p)
      one false p = ap (λ (n : ℕ). tree fs n) same.1 ∙ sym (cond-false (f.parent == 0) f.number (tree fs f.parent) p)
  climb fs e f at false b is root same fit =
      let other : at ≡ f.number → ⊥ = λ it. (let clash : true ≡ false = sym (eq-eqb at e.number (it ∙ sym same.0)) ∙ is in cc) in
      sym (cond-false (at == f.number) (cond (f.parent == 0) f.number (tree fs f.parent)) (tree fs at) (ne_eqb at f.number other))

  step_one : (es : List (Placed O)) → AreEdges es → (i at new : ℕ) (o : Option (Placed O)) (q : Option (Link O)) → Beside o q → q ≡ slice_get (reverse (forest es)) i → new ≡ climbed at o → tree (below es i) new ≡ tree (below es (i + 1)) at
  step_one es edges i at new None None both got is = ap (λ (n : ℕ). tree (below es i) n) is ∙ ap (λ (l : List (Link O)). tree l at) (sym (below_next es i None got))
  step_one es edges i at new None (Some f) both got is = absurd both
  step_one es edges i at new (Some e) None both got is = absurd both
  step_one es edges i at new (Some e) (Some f) both got is =
      let next = below_next es i (Some f) got in
      let fit = (subst (λ (l : List (Link O)). IsForest l) next (below_forest es edges (i + 1))).0 in
      ap (λ (n : ℕ). tree (below es i) n) is ∙ climb (below es i) e f at (at == e.number) (e.parent == 0) refl refl both fit ∙ ap (λ (l : List (Link O)). tree l at) (sym next)

  pub step_up : (es : List (Placed O)) → AreEdges es → (left at new : ℕ) → 0 < left → new ≡ climbed at (slice_get (reverse es) (left - 1)) → tree (below es (left - 1)) new ≡ tree (below es left) at
  step_up es edges left at new some is =
      let one : left - 1 + 1 ≡ left = omega arith in
      step_one es edges (left - 1) at new (slice_get (reverse es) (left - 1)) (slice_get (reverse (forest es)) (left - 1)) (beside es (left - 1)) refl is ∙ ap (λ (n : ℕ). tree (below es n) at) one

  -- ---- one step of what is needed

  need_one : (es : List (Placed O)) → AreEdges es → (trees : List ℕ) (i : ℕ) (tables made : List ℕ) (o : Option (Placed O)) (q : Option (Link O)) → Beside o q → q ≡ slice_get (reverse (forest es)) i
      → needed_with es trees tables made o ++ needed (in_trees es trees) (below es i) (tables_with es trees tables o) ≡ made ++ needed (in_trees es trees) (below es (i + 1)) tables
  need_one es edges trees i tables made None None both got = ap (λ (l : List (Link O)). made ++ needed (in_trees es trees) l tables) (sym (below_next es i None got))
  need_one es edges trees i tables made None (Some f) both got = absurd both
  need_one es edges trees i tables made (Some e) None both got = absurd both
  need_one es edges trees i tables made (Some e) (Some f) both got =
      let named = in_trees es trees in
      let rest = below es i in
      let G : ℕ → List ℕ → List ℕ → List ℕ = λ n s ts. cond (named n && (is_empty s || meet ts tables)) (n ∷ needed named rest (tables ++ s)) (needed named rest tables) in
      let sources : sources_or_none es e.number ≡ f.sources = ap (sources_or_none es) both.0 ∙ sources_link es edges f (link_listed es i f got) in
      let same : G e.number (sources_or_none es e.number) e.tables ≡ G f.number f.sources f.targets =
      ap (λ (n : ℕ). G n (sources_or_none es e.number) e.tables) both.0 ∙ ap (λ (s : List ℕ). G f.number s e.tables) sources ∙ ap (λ (ts : List ℕ). G f.number f.sources ts) both.2 in
      joined (is_needed es trees tables e) ∙ ap (λ (l : List ℕ). made ++ l) same ∙ ap (λ (l : List (Link O)). made ++ needed named l tables) (sym (below_next es i (Some f) got))
    where
      joined : (b : Bool) → (if b then made ++ e.number ∷ [] else made) ++ needed (in_trees es trees) (below es i) (if b then tables ++ sources_or_none es e.number else tables)
          ≡ made ++ cond b (e.number ∷ needed (in_trees es trees) (below es i) (tables ++ sources_or_none es e.number)) (needed (in_trees es trees) (below es i) tables)
      joined true = append_assoc made (e.number ∷ []) (needed (in_trees es trees) (below es i) (tables ++ sources_or_none es e.number))
      joined false = refl

  pub need_step : (es : List (Placed O)) → AreEdges es → (trees : List ℕ) (left : ℕ) (tables made more new : List ℕ) → 0 < left → more ≡ tables_with es trees tables (slice_get (reverse es) (left - 1)) → new ≡ needed_with es trees tables made (slice_get (reverse es) (left - 1))
      → new ++ needed (in_trees es trees) (below es (left - 1)) more ≡ made ++ needed (in_trees es trees) (below es left) tables
  need_step es edges trees left tables made more new some m n =
      let one : left - 1 + 1 ≡ left = omega arith in
      ap (λ (l : List ℕ). l ++ needed (in_trees es trees) (below es (left - 1)) more) n
      ∙ ap (λ (l : List ℕ). needed_with es trees tables made (slice_get (reverse es) (left - 1)) ++ needed (in_trees es trees) (below es (left - 1)) l) m
      ∙ need_one es edges trees (left - 1) tables made (slice_get (reverse es) (left - 1)) (slice_get (reverse (forest es)) (left - 1)) (beside es (left - 1)) refl
      ∙ ap (λ (k : ℕ). made ++ needed (in_trees es trees) (below es k) tables) one
