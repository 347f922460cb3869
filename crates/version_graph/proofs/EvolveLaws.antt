-- A graph stays one.
use Rattle.std.proofs.Common.{◌≡◌, ℕ, ◌+◌, ◌<◌, ◌≤◌, ◌^◌, List, [], ◌∷◌, ◌++◌, true, false, cond, sym, ap, ◌∙◌, subst, length, arith, inl, inr}
use Rattle.std.specs.Prelude.{Ok, Option, Some, None, unwrap_or}
use Rattle.std.specs.Str.{bytes_eq}
use Rattle.std.proofs.lemmas.List.{map-append, length-map, length-reverse}
use mathlib.Core.List.{reverse}
use Rattle.version_graph.specs.Kept.{edges_of}
use Rattle.version_graph.specs.declared.node.Node.{Node}
use Rattle.version_graph.specs.Sets.{In, Each, Distinct}
use Rattle.version_graph.specs.Edges.{Drawn, IsGraph, numbers, set_named, version_names, version_sets, operator_limit}
use Rattle.version_graph.specs.Evolve.{refusal_of, refused_start, refused_name, refused_limit, limit_passed, evolved, grown, start_of, targets_in, MayEvolve}
use Rattle.version_graph.specs.Calls.{CanGrow, FindsRoom}
use Rattle.version_graph.specs.declared.node.Last.{Last}
use Rattle.version_graph.specs.declared.parts.Edge.{Edge}
use Rattle.version_graph.specs.declared.parts.Placed.{Placed}
use Rattle.version_graph.proofs.SetLaws.{each_append, each_more, each_at}
use Rattle.version_graph.proofs.TableLaws.{distinct_append}
use Rattle.version_graph.proofs.NameLaws.{name_is}
use Rattle.version_graph.proofs.NodeLaws.{set_listed}
use Rattle.version_graph.proofs.GrowLaws.{grown_can, length_grown, grown_stays, grown_last}

-- a name that no version has is not listed
pub not_listed : (versions : List (List ℕ × ℕ)) (name : List ℕ) → set_named versions name ≡ None → In name (version_names versions) → ⊥
not_listed [] name none i = i
not_listed (v ∷ versions) name none (inl same) =
    (elim (bytes_eq name v.0) as (λ b. b ≡ true → cond b (Some v.1) (set_named versions name) ≡ None → ⊥) [
      | true ↦ λ e h. cc
      | false ↦ λ e h. cc
    ]) (name_is name v.0 same) none
not_listed (v ∷ versions) name none (inr i) =
    (elim (bytes_eq name v.0) as (λ b. cond b (Some v.1) (set_named versions name) ≡ None → ⊥) [
      | true ↦ λ h. cc
      | false ↦ λ h. not_listed versions name h i
    ]) none

module _ {O : Type 0} (g : Drawn O) (graph : IsGraph g) where
  start_lives : (from : Option (List ℕ)) (w : ℕ) → start_of g.versions from ≡ Some w → In w (0 ∷ numbers g.edges)
  start_lives None w e = inl (let same : 0 ≡ w = cc in sym same)
  start_lives (Some name) w e = inr (each_at (λ n. In n (numbers g.edges)) (version_sets g.versions) w (set_listed g.versions name w e) graph.named)

  pub can_evolve : (from : Option (List ℕ)) (edges : List (Edge O)) (w : ℕ) → MayEvolve g from edges → start_of g.versions from ≡ Some w → g.last_operator + length edges < 2 ^ 32 → g.last_table + targets_in edges < 2 ^ 32 → CanGrow g.edges w g.last_operator g.last_table edges
  can_evolve from edges w may start a b = record {
    edges = graph.edges;
    live = start_lives from w start;
    operators = graph.operators;
    tables = graph.tables;
    fits = may w start;
    few_operators = a;
    few_tables = b;
  }

  -- AN EVOLUTION LEAVES A GRAPH
  pub evolved_graph : (name : List ℕ) (w : ℕ) (edges : List (Edge O)) → CanGrow g.edges w g.last_operator g.last_table edges → 0 < length edges → set_named g.versions name ≡ None → length g.edges + length edges ≤ operator_limit → IsGraph (evolved g name w edges)
  evolved_graph name w edges can some none few =
      let after = grown_can g.edges w g.last_operator g.last_table edges can in
      let all = grown g.edges w g.last_operator g.last_table edges in
      let number = g.last_operator + length edges in
      record {
        edges = after.1.edges;
        few = omega (arith, length_grown g.edges w g.last_operator g.last_table edges);
        operators = after.1.operators;
        tables = after.1.tables;
        named = subst (λ (l : List ℕ). Each (λ n. In n (numbers all)) l) (sym (map-append (λ (v : List ℕ × ℕ). v.1) g.versions ((name, number) ∷ [])))
            (each_append (λ n. In n (numbers all)) (version_sets g.versions) (number ∷ [])
            (each_more (λ n. In n (numbers g.edges)) (λ n. In n (numbers all)) (λ n i. grown_stays g.edges w g.last_operator g.last_table edges n i) (version_sets g.versions) graph.named)
            (grown_last g.edges w g.last_operator g.last_table edges some, tt));
        names_once = subst (λ (l : List (List ℕ)). Distinct l) (sym (map-append (λ (v : List ℕ × ℕ). v.0) g.versions ((name, number) ∷ [])))
            (distinct_append (version_names g.versions) (name ∷ []) graph.names_once ((λ i. i), tt)
            (λ x i j. elim j as (λ _. ⊥) [ inl e ↦ not_listed g.versions name none (subst (λ (y : List ℕ). In y (version_names g.versions)) e i) | inr k ↦ k ]));
        sets_once = subst (λ (l : List ℕ). Distinct l) (sym (map-append (λ (v : List ℕ × ℕ). v.1) g.versions ((name, number) ∷ [])))
            (distinct_append (version_sets g.versions) (number ∷ []) graph.sets_once ((λ i. i), tt)
            (λ x i j. elim j as (λ _. ⊥) [
              | inl e ↦ let live = each_at (λ n. In n (numbers g.edges)) (version_sets g.versions) x i graph.named in
                  let le = each_at (λ n. n ≤ g.last_operator) (numbers g.edges) x live graph.operators in
                  omega arith
              | inr k ↦ k
            ]));
      }

pub no_refusal : {O : Type 0} (g : Drawn O) (name : List ℕ) (from : Option (List ℕ)) (edges : List (Edge O)) (w : ℕ) → start_of g.versions from ≡ Some w → set_named g.versions name ≡ None → limit_passed (length g.edges) g.last_operator g.last_table edges ≡ None → refusal_of g name from edges ≡ None
no_refusal g name from edges w start none room =
    ap (λ (o : Option ℕ). refused_start from o (refused_name name (set_named g.versions name) (refused_limit (limit_passed (length g.edges) g.last_operator g.last_table edges)))) start
    ∙ ap (λ (o : Option ℕ). refused_name name o (refused_limit (limit_passed (length g.edges) g.last_operator g.last_table edges))) none
    ∙ ap refused_limit room

pub length_edges : {O : Type 0} (nodes : List (Node O)) → length (edges_of nodes) ≡ length nodes
length_edges nodes = length-map (reverse nodes) (λ n. n.placed) ∙ length-reverse nodes

abbrev pub drawing : {O : Type 0} → List (Placed O) → List (List ℕ × ℕ) → ℕ → ℕ → Drawn O
drawing es vs o t = record { edges = es; versions = vs; last_operator = o; last_table = t }

pub drawn_is : {O : Type 0} {es fs : List (Placed O)} {vs ws : List (List ℕ × ℕ)} {o p t u : ℕ} → es ≡ fs → vs ≡ ws → o ≡ p → t ≡ u → drawing es vs o t ≡ drawing fs ws p u
drawn_is {O} a b c d = λ j. drawing (a j) (b j) (c j) (d j)

-- what is known where an evolution isn't refused
pub record Goes {O : Type 0} (g : Drawn O) (name : List ℕ) (from : Option (List ℕ)) (edges : List (Edge O)) (w operator table : ℕ) : Type 0 where
  pub graph : IsGraph g
  pub some : 0 < length edges
  pub may : MayEvolve g from edges
  pub start : start_of g.versions from ≡ Some w
  pub none : set_named g.versions name ≡ None
  pub limit : limit_passed (length g.edges) g.last_operator g.last_table edges ≡ None
  pub last_operator : operator ≡ g.last_operator + length edges
  pub last_table : table ≡ g.last_table + targets_in edges
  pub few : length g.edges + length edges ≤ operator_limit
  pub operator_fits : operator < 2 ^ 32
  pub table_fits : table < 2 ^ 32

module _ {O : Type 0} (g : Drawn O) (name : List ℕ) (from : Option (List ℕ)) (edges : List (Edge O)) (w operator table : ℕ) (goes : Goes g name from edges w operator table) where
  pub goes_can : CanGrow g.edges w g.last_operator g.last_table edges
  goes_can =
      let a = goes.last_operator in let b = goes.operator_fits in let c = goes.last_table in let d = goes.table_fits in
      can_evolve g goes.graph from edges w goes.may goes.start (omega arith) (omega arith)

  pub goes_no_refusal : refusal_of g name from edges ≡ None
  goes_no_refusal = no_refusal g name from edges w goes.start goes.none goes.limit

  pub goes_to : (es : List (Placed O)) (vs : List (List ℕ × ℕ)) → es ≡ grown g.edges w g.last_operator g.last_table edges → vs ≡ g.versions ++ (name, operator) ∷ [] → drawing es vs operator table ≡ evolved g name (unwrap_or (start_of g.versions from) 0) edges
  goes_to es vs a b =
      drawn_is (a ∙ ap (λ (k : ℕ). grown g.edges k g.last_operator g.last_table edges) (sym (ap (λ (o : Option ℕ). unwrap_or o 0) goes.start)))
      (b ∙ ap (λ (n : ℕ). g.versions ++ (name, n) ∷ []) goes.last_operator) goes.last_operator goes.last_table

  pub goes_graph : IsGraph (evolved g name w edges)
  goes_graph = evolved_graph g goes.graph name w edges goes_can goes.some goes.none goes.few

  pub goes_is_graph : (es : List (Placed O)) (vs : List (List ℕ × ℕ)) → es ≡ grown g.edges w g.last_operator g.last_table edges → vs ≡ g.versions ++ (name, operator) ∷ [] → IsGraph (drawing es vs operator table)
  goes_is_graph es vs a b =
      let e = drawn_is a (b ∙ ap (λ (n : ℕ). g.versions ++ (name, n) ∷ []) goes.last_operator) goes.last_operator goes.last_table in
      subst (λ (d : Drawn O). IsGraph d) (sym e) goes_graph

pub goes_from : {O : Type 0} (g : Drawn O) (name : List ℕ) (from : Option (List ℕ)) (edges : List (Edge O)) (w n : ℕ) (last after : Last) (listed : List (Edge O)) → IsGraph g → 0 < length edges → MayEvolve g from edges → start_of g.versions from ≡ Some w
    → set_named g.versions name ≡ None → n ≡ length g.edges → listed ≡ edges → last.operator ≡ g.last_operator → last.table ≡ g.last_table → FindsRoom n last listed (Ok after) → Goes g name from edges w after.operator after.table
goes_from {O} g name from edges w n last after listed graph some may start none count is a b room =
    let here : FindsRoom (length g.edges) (record { operator = g.last_operator; table = g.last_table }) edges (Ok after) =
    subst (λ (l : Last). FindsRoom (length g.edges) l edges (Ok after)) (λ j. record { operator = a j; table = b j })
    (subst (λ (l : List (Edge O)). FindsRoom (length g.edges) last l (Ok after)) is (subst (λ (k : ℕ). FindsRoom k last listed (Ok after)) count room)) in
    record { graph = graph; some = some; may = may; start = start; none = none; limit = here.0; last_operator = here.1; last_table = here.2; few = here.3; operator_fits = here.4; table_fits = here.5 }
