-- Edges and names that are placed.
use Rattle.std.proofs.Common.{◌≡◌, ℕ, ◌<◌, ◌≤◌, List, [], ◌∷◌, ◌++◌, Bool, true, false, cond, refl, sym, ap, ◌∙◌, subst, arith, inl, inr, Bor}
use Rattle.std.specs.Prelude.{Option, Some, None, is_some, ◌==◌, ◌||◌, nat_lt}
use Rattle.std.specs.Option.{option_copied}
use Rattle.std.proofs.lemmas.List.{map-append}
use Rattle.std.proofs.lemmas.Bool.{ltb-true, lt-ltb}
use Rattle.version_graph.specs.Sets.{In, Each, Distinct}
use Rattle.version_graph.specs.Tables.{TableVersion, table_numbers}
use Rattle.version_graph.specs.Edges.{Drawn, IsGraph, Rises, edge_of, is_in, numbers, made, made_by_edge, version_names, version_sets}
use Rattle.version_graph.specs.Placing.{CanName, CanPlace, FitsParent, last_of, top_of, with_edge, with_last, with_version}
use Rattle.version_graph.specs.declared.parts.Placed.{Placed}
use Rattle.version_graph.proofs.SetLaws.{each_append, each_more, each_at, is_in_true}
use Rattle.version_graph.proofs.TableLaws.{distinct_append, numbers_made, rises_above}
use Rattle.version_graph.proofs.EvolveLaws.{not_listed}

-- ---- rising numbers

pub rises_from : (low n : ℕ) (ks : List ℕ) → low ≤ n → Rises n ks → Rises low ks
rises_from low n [] less r = tt
rises_from low n (k ∷ ks) less r = (let a = r.0 in omega arith, r.1)

pub last_above : (n : ℕ) (ks : List ℕ) → Rises n ks → n ≤ last_of n ks
last_above n [] r = omega arith
last_above n (k ∷ ks) r = let a = r.0 in let more = last_above k ks r.1 in omega arith

pub below_last : (n : ℕ) (ks : List ℕ) → Rises n ks → Each (λ k. k ≤ last_of n ks) ks
below_last n [] r = tt
below_last n (k ∷ ks) r = (last_above k ks r.1, below_last k ks r.1)

pub top_is : (n : ℕ) (ks : List ℕ) (t : ℕ) → top_of n ks ≡ Some t → Rises n ks × (t ≡ last_of n ks)
top_is n [] t e = (tt, cc)
top_is n (k ∷ ks) t e =
    (elim (nat_lt n k) as (λ b. nat_lt n k ≡ b → cond b (top_of k ks) None ≡ Some t → Rises n (k ∷ ks) × (t ≡ last_of k ks)) [
      | true ↦ λ less f. let more = top_is k ks t f in ((ltb-true n k less, more.0), more.1)
      | false ↦ λ less f. cc
    ]) refl e

pub no_top : (n : ℕ) (ks : List ℕ) → top_of n ks ≡ None → Rises n ks → ⊥
no_top n [] e r = cc
no_top n (k ∷ ks) e r = no_top k ks (sym (ap (λ (b : Bool). cond b (top_of k ks) None) (lt-ltb n k r.0)) ∙ e) r.1

-- ---- live numbers

pub live_is : {O : Type 0} (es : List (Placed O)) (n : ℕ) → is_some (edge_of es n) ≡ is_in n (numbers es)
live_is [] n = refl
live_is (e ∷ es) n =
    elim (n == e.number) as (λ b. is_some (cond b (Some e) (edge_of es n)) ≡ (b || is_in n (numbers es))) [
      | true ↦ refl
      | false ↦ live_is es n
    ]

-- what a look-up says of it
pub live_known : {O : Type 0} (es : List (Placed O)) (n : ℕ) (o : Option (Bor (Placed O))) → option_copied o ≡ edge_of es n → is_some o ≡ is_in n (numbers es)
live_known es n None e = ap (λ o. is_some o) e ∙ live_is es n
live_known es n (Some b) e = ap (λ o. is_some o) e ∙ live_is es n

pub none_of : (o : Option ℕ) → is_some o ≡ false → o ≡ None
none_of None e = refl
none_of (Some n) e = cc

pub not_in : (n : ℕ) (ns : List ℕ) → is_in n ns ≡ false → In n ns → ⊥
not_in n ns e i = let clash : true ≡ false = sym (is_in_true n ns i) ∙ e in cc

-- ---- graphs

module _ {O : Type 0} (g : Drawn O) (graph : IsGraph g) where
  -- A PLACED EDGE LEAVES A GRAPH
  pub edge_graph : (e : Placed O) → CanPlace g e → FitsParent g e → IsGraph (with_edge g e)
  edge_graph e can fits =
      let next = can.next in
      let room = can.room in
      let top = last_of g.last_table e.tables in
      let made_is : table_numbers (made_by_edge e) ≡ e.tables = numbers_made e.tables e.edge.targets can.counted in
      let above = last_above g.last_table e.tables can.rising in
      record {
        edges = (
          record {
            newest = λ n i. elim i as (λ _. n < e.number) [ inl z ↦ omega arith | inr j ↦ let le = each_at (λ k. k ≤ g.last_operator) (numbers g.edges) n j graph.operators in omega arith ];
            placed = can.stands;
            fits = fits can.stands;
            counted = can.counted;
            rising = rises_from 0 g.last_table e.tables (omega arith) can.rising;
            above = λ n t i j. let le = each_at (λ m. m ≤ g.last_table) (table_numbers (made g.edges)) n i graph.tables in let less = rises_above g.last_table e.tables can.rising t j in omega arith;
          },
          graph.edges,
        );
        few = omega arith;
        operators = (omega arith, each_more (λ n. n ≤ g.last_operator) (λ n. n ≤ e.number) (λ n h. omega arith) (numbers g.edges) graph.operators);
        tables = subst (λ (l : List ℕ). Each (λ t. t ≤ top) l) (sym (map-append (λ (v : TableVersion). v.number) (made_by_edge e) (made g.edges)))
            (each_append (λ t. t ≤ top) (table_numbers (made_by_edge e)) (table_numbers (made g.edges))
            (subst (λ (l : List ℕ). Each (λ t. t ≤ top) l) (sym made_is) (below_last g.last_table e.tables can.rising))
            (each_more (λ t. t ≤ g.last_table) (λ t. t ≤ top) (λ t h. omega arith) (table_numbers (made g.edges)) graph.tables));
        named = each_more (λ n. In n (numbers g.edges)) (λ n. In n (e.number ∷ numbers g.edges)) (λ n i. inr i) (version_sets g.versions) graph.named;
        names_once = graph.names_once;
        sets_once = graph.sets_once;
      }

  -- A PLACED NAME LEAVES A GRAPH
  pub version_graph : (name : List ℕ) (set : ℕ) → CanName g name set → IsGraph (with_version g name set)
  version_graph name set can = record {
    edges = graph.edges;
    few = graph.few;
    operators = graph.operators;
    tables = graph.tables;
    named = subst (λ (l : List ℕ). Each (λ n. In n (numbers g.edges)) l) (sym (map-append (λ (v : List ℕ × ℕ). v.1) g.versions ((name, set) ∷ [])))
        (each_append (λ n. In n (numbers g.edges)) (version_sets g.versions) (set ∷ []) graph.named (can.lives, tt));
    names_once = subst (λ (l : List (List ℕ)). Distinct l) (sym (map-append (λ (v : List ℕ × ℕ). v.0) g.versions ((name, set) ∷ [])))
        (distinct_append (version_names g.versions) (name ∷ []) graph.names_once ((λ i. i), tt)
        (λ x i j. elim j as (λ _. ⊥) [ inl e ↦ not_listed g.versions name can.unused (subst (λ (y : List ℕ). In y (version_names g.versions)) e i) | inr k ↦ k ]));
    sets_once = subst (λ (l : List ℕ). Distinct l) (sym (map-append (λ (v : List ℕ × ℕ). v.1) g.versions ((name, set) ∷ [])))
        (distinct_append (version_sets g.versions) (set ∷ []) graph.sets_once ((λ i. i), tt)
        (λ x i j. elim j as (λ _. ⊥) [ inl e ↦ can.unnamed (subst (λ (y : ℕ). In y (version_sets g.versions)) e i) | inr k ↦ k ]));
  }

  -- GREATER LAST NUMBERS LEAVE A GRAPH
  pub last_graph : (operator table : ℕ) → g.last_operator ≤ operator → g.last_table ≤ table → IsGraph (with_last g operator table)
  last_graph operator table a b = record {
    edges = graph.edges;
    few = graph.few;
    operators = each_more (λ n. n ≤ g.last_operator) (λ n. n ≤ operator) (λ n h. omega arith) (numbers g.edges) graph.operators;
    tables = each_more (λ t. t ≤ g.last_table) (λ t. t ≤ table) (λ t h. omega arith) (table_numbers (made g.edges)) graph.tables;
    named = graph.named;
    names_once = graph.names_once;
    sets_once = graph.sets_once;
  }

pub edge_is : {O : Type 0} (g : Drawn O) (e : Placed O) (es : List (Placed O)) (o t : ℕ) → es ≡ e ∷ g.edges → o ≡ e.number → t ≡ last_of g.last_table e.tables → Rattle.version_graph.proofs.EvolveLaws.drawing es g.versions o t ≡ with_edge g e
edge_is g e es o t a b c = λ j. Rattle.version_graph.proofs.EvolveLaws.drawing (a j) g.versions (b j) (c j)

pub version_is : {O : Type 0} (g : Drawn O) (name : List ℕ) (set : ℕ) (vs : List (List ℕ × ℕ)) → vs ≡ g.versions ++ (name, set) ∷ [] → Rattle.version_graph.proofs.EvolveLaws.drawing g.edges vs g.last_operator g.last_table ≡ with_version g name set
version_is g name set vs a = λ j. Rattle.version_graph.proofs.EvolveLaws.drawing g.edges (a j) g.last_operator g.last_table
