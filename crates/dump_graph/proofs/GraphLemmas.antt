-- Graphs of edges and versions alone: what may be placed and named next in them.
use Rattle.std.specs.Prelude.{◌<◌, ◌≤◌, Some, None}
use Rattle.std.proofs.Common.{◌≡◌, ℕ, List, [], ◌∷◌, ◌++◌, true, false, cond, inl, inr, length, refl, sym, ap, subst, ◌∙◌, arith}
use Rattle.std.specs.Str.{bytes_eq}
use Rattle.std.proofs.lemmas.List.{map-append}
use Rattle.version_graph.specs.Sets.{Distinct, Each, In}
use Rattle.version_graph.specs.Tables.{TableVersion, table_numbers}
use Rattle.version_graph.specs.Edges.{AreEdges, Drawn, IsGraph, Rises, made, made_by_edge, numbers, operator_limit, set_named, version_names, version_sets}
use Rattle.version_graph.specs.Placing.{CanName, CanPlace, last_of}
use Rattle.version_graph.specs.declared.parts.Placed.{Placed}
use Rattle.version_graph.proofs.NameLaws.{same_name}
use Rattle.version_graph.proofs.SetLaws.{each_at, in_left, in_right}
use Rattle.version_graph.proofs.TableLaws.{numbers_made, rises_above}

-- ---- the last numbers that edges have

-- the number of the newest edge, else 0
abbrev pub top_number : {O : Type 0} → List (Placed O) → ℕ
top_number [] = 0
top_number (e ∷ es) = e.number

-- the last table that edges make, else 0
abbrev pub top_table : {O : Type 0} → List (Placed O) → ℕ
top_table [] = 0
top_table (e ∷ es) = last_of (top_table es) e.tables

-- the graph of edges and versions whose last numbers are theirs
abbrev pub sketch : {O : Type 0} → List (Placed O) → List (List ℕ × ℕ) → Drawn O
sketch es versions = record { edges = es; versions = versions; last_operator = top_number es; last_table = top_table es }

last_in : (n : ℕ) (ks : List ℕ) → In (last_of n ks) (n ∷ ks)
last_in n [] = inl refl
last_in n (k ∷ ks) = inr (last_in k ks)

rises_on : (low : ℕ) (ks : List ℕ) → Rises 0 ks → ((k : ℕ) → In k ks → low < k) → Rises low ks
rises_on low [] rises above = tt
rises_on low (k ∷ ks) rises above = (above k (inl refl), rises.1)

at_most : (n most : ℕ) (ns : List ℕ) → Each (λ k. k ≤ most) ns → In n (0 ∷ ns) → n ≤ most
at_most n most ns all (inl zero) = omega (arith, zero)
at_most n most ns all (inr there) = each_at (λ k. k ≤ most) ns n there all

module _ {O : Type 0} where
  -- the newest edge lives
  top_lives : (es : List (Placed O)) → In (top_number es) (0 ∷ numbers es)
  top_lives [] = inl refl
  top_lives (e ∷ es) = inr (inl refl)

  made_next : (e : Placed O) (es : List (Placed O)) → length e.tables ≡ length e.edge.targets → table_numbers (made (e ∷ es)) ≡ e.tables ++ table_numbers (made es)
  made_next e es counted =
      map-append (λ (v : TableVersion). v.number) (made_by_edge e) (made es)
      ∙ ap (λ (ts : List ℕ). ts ++ table_numbers (made es)) (numbers_made e.tables e.edge.targets counted)

  -- a table of older edges, or a new one
  older_or_new : (e : Placed O) (es : List (Placed O)) → In (top_table es) (0 ∷ table_numbers (made es)) → In (last_of (top_table es) e.tables) (top_table es ∷ e.tables) → In (last_of (top_table es) e.tables) (0 ∷ (e.tables ++ table_numbers (made es)))
  older_or_new e es (inl zero) (inl same) = inl (same ∙ zero)
  older_or_new e es (inr there) (inl same) = inr (in_right (last_of (top_table es) e.tables) e.tables (table_numbers (made es)) (subst (λ t. In t (table_numbers (made es))) (sym same) there))
  older_or_new e es older (inr new) = inr (in_left (last_of (top_table es) e.tables) e.tables (table_numbers (made es)) new)

  -- the last table lives
  table_lives : (es : List (Placed O)) → AreEdges es → In (top_table es) (0 ∷ table_numbers (made es))
  table_lives [] edges = inl refl
  table_lives (e ∷ es) edges =
      subst (λ (ts : List ℕ). In (last_of (top_table es) e.tables) (0 ∷ ts)) (sym (made_next e es edges.0.counted)) (older_or_new e es (table_lives es edges.1) (last_in (top_table es) e.tables))

  -- tables of an edge are above those of older ones
  tables_above : (e : Placed O) (es : List (Placed O)) → AreEdges (e ∷ es) → In (top_table es) (0 ∷ table_numbers (made es)) → (t : ℕ) → In t e.tables → top_table es < t
  tables_above e es edges (inl zero) t there = subst (λ n. n < t) (sym zero) (rises_above 0 e.tables edges.0.rising t there)
  tables_above e es edges (inr older) t there = edges.0.above (top_table es) t older there

  -- EACH EDGE OF A GRAPH MAY BE PLACED ON THE ONES BEFORE IT
  pub can_place : (e : Placed O) (es : List (Placed O)) → AreEdges (e ∷ es) → length (e ∷ es) ≤ operator_limit → CanPlace (sketch es []) e
  can_place e es edges few = record {
    room = omega arith;
    next = edges.0.newest (top_number es) (top_lives es);
    stands = edges.0.placed;
    counted = edges.0.counted;
    rising = rises_on (top_table es) e.tables edges.0.rising (tables_above e es edges (table_lives es edges.1));
  }

  pub last_operator_fits : (g : Drawn O) → IsGraph g → top_number g.edges ≤ g.last_operator
  last_operator_fits g graph = at_most (top_number g.edges) g.last_operator (numbers g.edges) graph.operators (top_lives g.edges)

  pub last_table_fits : (g : Drawn O) → IsGraph g → top_table g.edges ≤ g.last_table
  last_table_fits g graph = at_most (top_table g.edges) g.last_table (table_numbers (made g.edges)) graph.tables (table_lives g.edges graph.edges)

-- ---- versions

-- a name that isn't listed is no version's
not_named : (versions : List (List ℕ × ℕ)) (name : List ℕ) → (In name (version_names versions) → ⊥) → set_named versions name ≡ None
not_named [] name unlisted = refl
not_named (v ∷ versions) name unlisted =
    (elim (bytes_eq name v.0) as (λ b. bytes_eq name v.0 ≡ b → cond b (Some v.1) (set_named versions name) ≡ None) [
      | true ↦ λ same. absurd (unlisted (inl (same_name name v.0 same)))
      | false ↦ λ other. not_named versions name (λ i. unlisted (inr i))
    ]) refl

-- what stands once doesn't stand before itself
not_before : {X : Type 0} (x : X) (xs ys : List X) → Distinct (xs ++ x ∷ ys) → In x xs → ⊥
not_before x [] ys once i = i
not_before x (z ∷ xs) ys once (inl same) = once.0 (in_right z xs (x ∷ ys) (inl (sym same)))
not_before x (z ∷ xs) ys once (inr i) = not_before x xs ys once.1 i

-- EACH VERSION OF A GRAPH MAY BE NAMED BEHIND THE ONES BEFORE IT
pub named_on : {O : Type 0} (es : List (Placed O)) (before after : List (List ℕ × ℕ)) (v : List ℕ × ℕ)
    → Distinct (version_names (before ++ v ∷ after)) → Distinct (version_sets (before ++ v ∷ after)) → In v.1 (numbers es) → CanName (sketch es before) v.0 v.1
named_on es before after v names sets lives = record {
  unused = not_named before v.0 (not_before v.0 (version_names before) (version_names after) (subst (λ (ns : List (List ℕ)). Distinct ns) (map-append (λ (u : List ℕ × ℕ). u.0) before (v ∷ after)) names));
  lives = lives;
  unnamed = not_before v.1 (version_sets before) (version_sets after) (subst (λ (ns : List ℕ). Distinct ns) (map-append (λ (u : List ℕ × ℕ). u.1) before (v ∷ after)) sets);
}
