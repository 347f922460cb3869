-- The edges that an evolution adds.
use Rattle.std.specs.Prelude.{◌⊎◌}
use Rattle.std.proofs.Common.{◌≡◌, ℕ, ◌+◌, ◌<◌, ◌≤◌, true, false, Bool, cond, List, [], ◌∷◌, ◌++◌, drop, length, inl, inr, refl, sym, ap, ◌∙◌, subst, arith}
use Rattle.std.proofs.lemmas.List.{append-nil, append_assoc, length-reverse}
use Rattle.std.proofs.Math.Seq.{drop-append_seam}
use mathlib.Core.List.{reverse}
use Rattle.version_graph.specs.Sets.{In, Distinct, Each, Within}
use Rattle.version_graph.specs.Tables.{table_numbers}
use Rattle.version_graph.specs.Edges.{AreEdges, Rises, made, numbers}
use Rattle.version_graph.specs.Evolve.{grown, numbers_after, placed_next}
use Rattle.version_graph.specs.Forest.{Link, forest, link}
use Rattle.version_graph.specs.declared.parts.Edge.{Edge}
use Rattle.version_graph.specs.declared.parts.Placed.{Placed}
use Rattle.version_graph.proofs.GrowLaws.{rises_after, top_after}
use Rattle.version_graph.proofs.SetLaws.{in_append, in_left, in_right}
use Rattle.version_graph.proofs.TableLaws.{distinct_append}
use Rattle.layout_rules.specs.Changes.{creates_next, is_empty}
use Rattle.layout_rules.specs.Layouts.{IsCreate}
use Rattle.layout_rules.proofs.ChangeLaws.{no_name}
use Rattle.version_graph.proofs.PlaceLaws.{rises_from}
use Rattle.version_model.proofs.AscendingLaws.{reverse_first}
use Rattle.version_model.proofs.EvolveLaws.{before_grown}
use Rattle.version_model.proofs.GrownLaws.{grown_links}
use Rattle.version_model.proofs.HeadingLaws.{made_more, numbers_within}
use Rattle.db_evolution.specs.News.{created_in, creates_in, newer_edges}
use Rattle.db_evolution.proofs.LaidLemmas.{of_reverse}

-- items of the second list stand behind those of the first, where these are lower
pub rises_on : (low mid : ℕ) (xs ys : List ℕ) → low ≤ mid → Rises low xs → Each (λ x. x ≤ mid) xs → Rises mid ys → Rises low (xs ++ ys)
rises_on low mid [] ys less a top b = rises_from low mid ys less b
rises_on low mid (x ∷ xs) ys less a top b = (a.0, rises_on x mid xs ys top.0 a.1 top.1 b)

module _ {O : Type 0} where
  -- no number of an edge stands twice
  pub numbers_once : (es : List (Placed O)) → AreEdges es → Distinct (reverse (numbers es))
  numbers_once [] edges = tt
  numbers_once (e ∷ es) edges =
      subst (λ (l : List ℕ). Distinct l) (sym (reverse_first e.number (numbers es)))
      (distinct_append (reverse (numbers es)) (e.number ∷ []) (numbers_once es edges.1) ((λ i. i), tt) (λ n i j. elim j as (λ _. ⊥) [
        | inl same ↦ (let less = edges.0.newest n (inr (of_reverse n (numbers es) i)) in omega (arith, less, same))
        | inr out ↦ out
      ]))

  -- the new edges, in their order
  abbrev pub grown_edges : ℕ → ℕ → ℕ → List (Edge O) → List (Placed O)
  grown_edges parent operator table [] = []
  grown_edges parent operator table (e ∷ edges) = placed_next parent operator table e ∷ grown_edges (operator + 1) (operator + 1) (table + length e.targets) edges

  edges_on : (es : List (Placed O)) (p o t : ℕ) (edges : List (Edge O)) → reverse (grown es p o t edges) ≡ reverse es ++ grown_edges p o t edges
  edges_on es p o t [] = sym (append-nil (reverse es))
  edges_on es p o t (e ∷ edges) =
      let new = placed_next p o t e in
      let rest = grown_edges (o + 1) (o + 1) (t + length e.targets) edges in
      edges_on (new ∷ es) (o + 1) (o + 1) (t + length e.targets) edges ∙ ap (λ (l : List (Placed O)). l ++ rest) (reverse_first new es) ∙ append_assoc (reverse es) (new ∷ []) rest

  -- THE NEW EDGES ARE THOSE FROM A PLACE ON
  pub newer_are : (es : List (Placed O)) (p o t : ℕ) (edges : List (Edge O)) → newer_edges (grown es p o t edges) (length es) ≡ grown_edges p o t edges
  newer_are es p o t edges =
      ap (λ (l : List (Placed O)). drop (length es) l) (edges_on es p o t edges)
      ∙ ap (λ (n : ℕ). drop n (reverse es ++ grown_edges p o t edges)) (sym (length-reverse es))
      ∙ drop-append_seam (reverse es) (grown_edges p o t edges)

  -- and so are their numbers
  pub numbers_on : (es : List (Placed O)) (p o t : ℕ) (edges : List (Edge O)) → reverse (numbers (grown es p o t edges)) ≡ reverse (numbers es) ++ numbers (grown_edges p o t edges)
  numbers_on es p o t [] = sym (append-nil (reverse (numbers es)))
  numbers_on es p o t (e ∷ edges) =
      let new = placed_next p o t e in
      let rest = numbers (grown_edges (o + 1) (o + 1) (t + length e.targets) edges) in
      numbers_on (new ∷ es) (o + 1) (o + 1) (t + length e.targets) edges ∙ ap (λ (l : List ℕ). l ++ rest) (reverse_first new.number (numbers es)) ∙ append_assoc (reverse (numbers es)) (new.number ∷ []) rest

  pub creates_are : (p o t : ℕ) (edges : List (Edge O)) → creates_in (grown_edges p o t edges) ≡ creates_next o edges
  creates_are p o t [] = refl
  creates_are p o t (e ∷ edges) =
      let rest = creates_in (grown_edges (o + 1) (o + 1) (t + length e.targets) edges) in
      elim (is_empty e.sources) as (λ b. cond b ((o + 1) ∷ rest) rest ≡ cond b ((o + 1) ∷ creates_next (o + 1) edges) (creates_next (o + 1) edges)) [
        | true ↦ ap (λ (l : List ℕ). (o + 1) ∷ l) (creates_are (o + 1) (o + 1) (t + length e.targets) edges)
        | false ↦ creates_are (o + 1) (o + 1) (t + length e.targets) edges
      ]

  -- ---- they ascend

  pub creates_rise : (o : ℕ) (edges : List (Edge O)) → Rises o (creates_next o edges)
  creates_rise o [] = tt
  creates_rise o (e ∷ edges) =
      elim (is_empty e.sources) as (λ b. Rises o (cond b ((o + 1) ∷ creates_next (o + 1) edges) (creates_next (o + 1) edges))) [
        | true ↦ (omega arith, creates_rise (o + 1) edges)
        | false ↦ rises_from o (o + 1) (creates_next (o + 1) edges) (omega arith) (creates_rise (o + 1) edges)
      ]

  pub created_rise : (p o t : ℕ) (edges : List (Edge O)) → Rises t (created_in (grown_edges p o t edges))
  created_rise p o t [] = tt
  created_rise p o t (e ∷ edges) =
      let more = t + length e.targets in
      let rest = created_rise (o + 1) (o + 1) more edges in
      let tables = numbers_after t e.targets in
      elim (is_empty e.sources) as (λ b. Rises t (cond b (tables ++ created_in (grown_edges (o + 1) (o + 1) more edges)) (created_in (grown_edges (o + 1) (o + 1) more edges)))) [
        | true ↦ rises_on t more tables (created_in (grown_edges (o + 1) (o + 1) more edges)) (omega arith) (rises_after t t e.targets (omega arith)) (top_after t e.targets) rest
        | false ↦ rises_from t more (created_in (grown_edges (o + 1) (o + 1) more edges)) (omega arith) rest
      ]

  -- ---- their links

  -- the operator and its tables are newer than all edges
  pub record IsNew (es : List (Placed O)) (f : Link O) : Type 0 where
    pub number : (n : ℕ) → In n (numbers es) → n < f.number
    pub targets : (t : ℕ) → In t f.targets → In t (table_numbers (made es)) → ⊥

  pub are_new : (old es : List (Placed O)) (p o t : ℕ) (edges : List (Edge O)) → AreEdges (grown es p o t edges) → Within (numbers old) (numbers es) → Within (table_numbers (made old)) (table_numbers (made es)) → Each (IsNew old) (grown_links es p o t edges)
  are_new old es p o t [] all lower within = tt
  are_new old es p o t (e ∷ edges) all lower within =
      let new = placed_next p o t e in
      let here = before_grown (new ∷ es) (o + 1) (o + 1) (t + length e.targets) edges all in (
        record { number = λ n i. here.0.newest n (inr (lower n i)); targets = λ x i j. let less = here.0.above x x (within x j) i in omega arith },
        are_new old (new ∷ es) (o + 1) (o + 1) (t + length e.targets) edges all (λ n i. inr (lower n i)) (λ x i. numbers_within es (new ∷ es) (made_more new es) x (within x i)),
      )

  -- an operator is an older or a new one
  pub grown_split : (es : List (Placed O)) (p o t : ℕ) (edges : List (Edge O)) (f : Link O) → In f (forest (grown es p o t edges)) → In f (forest es) ⊎ In f (grown_links es p o t edges)
  grown_split es p o t [] f i = inl i
  grown_split es p o t (e ∷ edges) f i =
      let new = placed_next p o t e in
      let rest = grown_links (new ∷ es) (o + 1) (o + 1) (t + length e.targets) edges in
      elim (grown_split (new ∷ es) (o + 1) (o + 1) (t + length e.targets) edges f i) as (λ _. In f (forest es) ⊎ In f (link es new ∷ rest)) [
        | inl j ↦ elim j as (λ _. In f (forest es) ⊎ In f (link es new ∷ rest)) [ inl same ↦ inr (inl same) | inr k ↦ inl k ]
        | inr j ↦ inr (inr j)
      ]

  pub grown_old : (es : List (Placed O)) (p o t : ℕ) (edges : List (Edge O)) (f : Link O) → In f (forest es) → In f (forest (grown es p o t edges))
  grown_old es p o t [] f i = i
  grown_old es p o t (e ∷ edges) f i = grown_old (placed_next p o t e ∷ es) (o + 1) (o + 1) (t + length e.targets) edges f (inr i)

  pub grown_new : (es : List (Placed O)) (p o t : ℕ) (edges : List (Edge O)) (f : Link O) → In f (grown_links es p o t edges) → In f (forest (grown es p o t edges))
  grown_new es p o t [] f i = absurd i
  grown_new es p o t (e ∷ edges) f (inl same) = grown_old (placed_next p o t e ∷ es) (o + 1) (o + 1) (t + length e.targets) edges f (inl same)
  grown_new es p o t (e ∷ edges) f (inr i) = grown_new (placed_next p o t e ∷ es) (o + 1) (o + 1) (t + length e.targets) edges f i

  -- their numbers are those of the new edges
  pub new_number : (es : List (Placed O)) (p o t : ℕ) (edges : List (Edge O)) (f : Link O) → In f (grown_links es p o t edges) → In f.number (numbers (grown_edges p o t edges))
  new_number es p o t [] f i = absurd i
  new_number es p o t (e ∷ edges) f (inl same) = inl (ap (λ (y : Link O). y.number) same)
  new_number es p o t (e ∷ edges) f (inr i) = inr (new_number (placed_next p o t e ∷ es) (o + 1) (o + 1) (t + length e.targets) edges f i)

  pub number_new : (es : List (Placed O)) (p o t : ℕ) (edges : List (Edge O)) (n : ℕ) → In n (numbers (grown_edges p o t edges)) → (f : Link O) × In f (grown_links es p o t edges) × (f.number ≡ n)
  number_new es p o t [] n i = absurd i
  number_new es p o t (e ∷ edges) n (inl same) = (link es (placed_next p o t e), inl refl, sym same)
  number_new es p o t (e ∷ edges) n (inr i) =
      let r = number_new (placed_next p o t e ∷ es) (o + 1) (o + 1) (t + length e.targets) edges n i in
      (r.0, inr r.1, r.2)

  -- ---- the CREATE TABLE operators among them

  above_creates : (o : ℕ) (edges : List (Edge O)) (n : ℕ) → In n (creates_next o edges) → o < n
  above_creates o [] n i = absurd i
  above_creates o (e ∷ edges) n i =
      (elim (is_empty e.sources) as (λ b. In n (cond b ((o + 1) ∷ creates_next (o + 1) edges) (creates_next (o + 1) edges)) → o < n) [
        | true ↦ λ j. elim j as (λ _. o < n) [ inl same ↦ omega (arith, same) | inr k ↦ (let less = above_creates (o + 1) edges n k in omega (arith, less)) ]
        | false ↦ λ k. let less = above_creates (o + 1) edges n k in omega (arith, less)
      ]) i

  above_links : (es : List (Placed O)) (p o t : ℕ) (edges : List (Edge O)) (f : Link O) → In f (grown_links es p o t edges) → o < f.number
  above_links es p o t [] f i = absurd i
  above_links es p o t (e ∷ edges) f (inl same) = let number : f.number ≡ o + 1 = ap (λ (y : Link O). y.number) same in omega (arith, number)
  above_links es p o t (e ∷ edges) f (inr i) = let less = above_links (placed_next p o t e ∷ es) (o + 1) (o + 1) (t + length e.targets) edges f i in omega (arith, less)

  -- a number of these is above all older ones
  pub create_above : (o : ℕ) (edges : List (Edge O)) (n : ℕ) → In n (creates_next o edges) → n ≤ o → ⊥
  create_above o edges n i low = let less = above_creates o edges n i in omega (arith, less, low)

  first_create : (es : List (Placed O)) (new : Placed O) (rest more : List ℕ) (f : Link O) → f ≡ link es new → ((n : ℕ) → In n rest → new.number < n) → (b : Bool) → is_empty new.edge.sources ≡ b → In f.number (cond b (new.number ∷ rest) rest) → IsCreate f × Within f.targets (cond b (new.tables ++ more) more)
  first_create es new rest more f same above true is a = (
    subst (λ (y : Link O). IsCreate y) (sym same) (no_name es new new.edge.sources refl is),
    (λ x i. in_left x new.tables more (subst (λ (y : Link O). In x y.targets) same i)),
  )
  first_create es new rest more f same above false is a =
      let less = above f.number a in
      let number : f.number ≡ new.number = ap (λ (y : Link O). y.number) same in
      absurd (omega (arith, less, number))

  later_create : (n : ℕ) (f : Link O) (tables rest more : List ℕ) → n < f.number → (In f.number rest → IsCreate f × Within f.targets more) → (b : Bool) → In f.number (cond b (n ∷ rest) rest) → IsCreate f × Within f.targets (cond b (tables ++ more) more)
  later_create n f tables rest more less later true (inl same) = absurd (omega (arith, less, same))
  later_create n f tables rest more less later true (inr i) = let r = later i in (r.0, (λ x j. in_right x tables more (r.1 x j)))
  later_create n f tables rest more less later false i = later i

  -- one of the new layout has no sources, and its tables are created
  pub create_of : (es : List (Placed O)) (p o t : ℕ) (edges : List (Edge O)) (f : Link O) → In f (grown_links es p o t edges) → In f.number (creates_next o edges) → IsCreate f × Within f.targets (created_in (grown_edges p o t edges))
  create_of es p o t [] f i a = absurd i
  create_of es p o t (e ∷ edges) f (inl same) a =
      first_create es (placed_next p o t e) (creates_next (o + 1) edges) (created_in (grown_edges (o + 1) (o + 1) (t + length e.targets) edges)) f same (above_creates (o + 1) edges) (is_empty e.sources) refl a
  create_of es p o t (e ∷ edges) f (inr i) a =
      let new = placed_next p o t e in
      let more = t + length e.targets in
      later_create (o + 1) f new.tables (creates_next (o + 1) edges) (created_in (grown_edges (o + 1) (o + 1) more edges)) (above_links (new ∷ es) (o + 1) (o + 1) more edges f i)
      (create_of (new ∷ es) (o + 1) (o + 1) more edges f i) (is_empty e.sources) a

  -- a created table is made by one of the new layout
  pub created_by : (es : List (Placed O)) (p o t : ℕ) (edges : List (Edge O)) (x : ℕ) → In x (created_in (grown_edges p o t edges)) → (f : Link O) × In f (grown_links es p o t edges) × In f.number (creates_next o edges) × In x f.targets
  created_by es p o t [] x i = absurd i
  created_by es p o t (e ∷ edges) x i =
      let new = placed_next p o t e in
      let next = t + length e.targets in
      let links = grown_links (new ∷ es) (o + 1) (o + 1) next edges in
      let rest = creates_next (o + 1) edges in
      let more = created_in (grown_edges (o + 1) (o + 1) next edges) in
      (elim (is_empty e.sources) as (λ b. In x (cond b (new.tables ++ more) more) → (f : Link O) × In f (link es new ∷ links) × In f.number (cond b ((o + 1) ∷ rest) rest) × In x f.targets) [
        | true ↦ λ j. elim (in_append x new.tables more j) as (λ _. (f : Link O) × In f (link es new ∷ links) × In f.number ((o + 1) ∷ rest) × In x f.targets) [
          | inl k ↦ (link es new, inl refl, inl refl, k)
          | inr k ↦ (let r = created_by (new ∷ es) (o + 1) (o + 1) next edges x k in (r.0, inr r.1, inr r.2, r.3))
        ]
        | false ↦ λ k. let r = created_by (new ∷ es) (o + 1) (o + 1) next edges x k in (r.0, inr r.1, r.2, r.3)
      ]) i
