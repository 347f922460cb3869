-- A graph of versions: its edges, THE NEWEST FIRST, its named working sets and the last numbers given.
use Rattle.std.specs.Prelude.{◌≡◌, ℕ, ◌<◌, ◌≤◌, Bool, false, cond, ◌==◌, List, [], ◌∷◌, ◌++◌, map, length, Option, Some, None, option_map}
use Rattle.std.specs.List.{find, list_any}
use Rattle.std.specs.Option.{option_map_or}
use Rattle.std.specs.Str.{bytes_eq}
use Rattle.std.specs.Map.{lookup}
use Rattle.version_graph.specs.Sets.{In, Distinct, Each}
use Rattle.version_graph.specs.Tables.{TableVersion, table_numbers, headings_of, passing, taken, tables_of, FitsSet}
use Rattle.version_graph.specs.declared.parts.Heading.{Heading}
use Rattle.version_graph.specs.declared.parts.Placed.{Placed}

-- Parents are older than the edges on them. So on a list with the newest edge first each definition is a plain recursion.
pub record Drawn (O : Type 0) : Type 0 where
  -- the newest first
  pub edges : List (Placed O)
  -- in order of creation, each with its working set
  pub versions : List (List ℕ × ℕ)
  pub last_operator : ℕ
  pub last_table : ℕ

abbrev pub numbers : {O : Type 0} → List (Placed O) → List ℕ
numbers [] = []
numbers (e ∷ es) = e.number ∷ numbers es

-- the tables that an edge makes
abbrev pub made_by_edge : {O : Type 0} → Placed O → List TableVersion
made_by_edge e = tables_of e.tables e.edge.targets

-- all tables
abbrev pub made : {O : Type 0} → List (Placed O) → List TableVersion
made [] = []
made (e ∷ es) = made_by_edge e ++ made es

-- the working set that an edge leaves of the one before it: its sources go out, and its targets come at the end
abbrev pub set_after : {O : Type 0} → List TableVersion → Placed O → List TableVersion
set_after set e = passing set e.edge.sources ++ made_by_edge e

-- the working set of a number; that of 0 is empty
abbrev pub working : {O : Type 0} → List (Placed O) → ℕ → List TableVersion
working [] w = []
working (e ∷ es) w = cond (w == e.number) (set_after (working es e.parent) e) (working es w)

-- the source tables of an edge on older ones, in order
abbrev pub sources_of : {O : Type 0} → List (Placed O) → Placed O → List TableVersion
sources_of es e = taken (working es e.parent) e.edge.sources

-- ---- look-ups; each is None where what it asks for doesn't live

abbrev pub edge_of : {O : Type 0} → List (Placed O) → ℕ → Option (Placed O)
edge_of es n = find (λ e. n == e.number) es

abbrev pub sources_at : {O : Type 0} → List (Placed O) → ℕ → Option (List ℕ)
sources_at [] n = None
sources_at (e ∷ es) n = cond (n == e.number) (Some (table_numbers (sources_of es e))) (sources_at es n)

abbrev pub tables_at : {O : Type 0} → List (Placed O) → ℕ → Option (List ℕ)
tables_at es w = cond (w == 0) (Some []) (option_map (λ e. table_numbers (working es w)) (edge_of es w))

abbrev pub heading_of : {O : Type 0} → List (Placed O) → ℕ → Option Heading
heading_of es t = option_map (λ (v : TableVersion). v.heading) (find (λ (v : TableVersion). t == v.number) (made es))

-- whether a table lives and has this name
abbrev pub has_name : {O : Type 0} → List (Placed O) → List ℕ → ℕ → Bool
has_name es name t = option_map_or (λ (h : Heading). bytes_eq h.name name) (heading_of es t) false

-- the first of these tables that has this name
abbrev pub number_named : {O : Type 0} → List (Placed O) → List ℕ → List ℕ → Option ℕ
number_named es ts name = find (has_name es name) ts

abbrev pub is_in : ℕ → List ℕ → Bool
is_in n ns = list_any (λ k. n == k) ns

-- the operator that made a table
abbrev pub maker_of : {O : Type 0} → List (Placed O) → ℕ → Option ℕ
maker_of es t = option_map (λ e. e.number) (find (λ e. is_in t e.tables) es)

-- the working set of a version
abbrev pub set_named : List (List ℕ × ℕ) → List ℕ → Option ℕ
set_named versions name = lookup (bytes_eq name) versions

abbrev pub version_names : List (List ℕ × ℕ) → List (List ℕ)
version_names versions = map (λ (v : List ℕ × ℕ). v.0) versions

abbrev pub version_sets : List (List ℕ × ℕ) → List ℕ
version_sets versions = map (λ (v : List ℕ × ℕ). v.1) versions

-- ---- what is true of every graph

abbrev pub Rises : ℕ → List ℕ → Type 0
Rises n [] = Unit {0}
Rises n (k ∷ ks) = (n < k) × Rises k ks

-- an edge stands on older ones
pub record Follows {O : Type 0} (es : List (Placed O)) (e : Placed O) : Type 0 where
  pub newest : (n : ℕ) → In n (0 ∷ numbers es) → n < e.number
  pub placed : In e.parent (0 ∷ numbers es)
  pub fits : FitsSet (headings_of (working es e.parent)) e.edge
  pub counted : length e.tables ≡ length e.edge.targets
  -- tables rise too, so each is made once
  pub rising : Rises 0 e.tables
  pub above : (n t : ℕ) → In n (table_numbers (made es)) → In t e.tables → n < t

abbrev pub AreEdges : {O : Type 0} → List (Placed O) → Type 0
AreEdges [] = Unit {0}
AreEdges (e ∷ es) = Follows es e × AreEdges es

abbrev pub operator_limit : ℕ
operator_limit = 1024

pub record IsGraph {O : Type 0} (g : Drawn O) : Type 0 where
  pub edges : AreEdges g.edges
  pub few : length g.edges ≤ operator_limit
  pub operators : Each (λ n. n ≤ g.last_operator) (numbers g.edges)
  pub tables : Each (λ t. t ≤ g.last_table) (table_numbers (made g.edges))
  -- each version names the working set of an operator, and no other version names it
  pub named : Each (λ n. In n (numbers g.edges)) (version_sets g.versions)
  pub names_once : Distinct (version_names g.versions)
  pub sets_once : Distinct (version_sets g.versions)
