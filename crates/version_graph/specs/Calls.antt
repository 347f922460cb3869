-- What inner calls ensure.
use Rattle.std.specs.Prelude.{◌≡◌, ℕ, ◌+◌, ◌<◌, ◌≤◌, ◌^◌, slice_index_or, List, [], ◌∷◌, ◌++◌, length, Option, Some, None, Result, Ok, Err, ⊤}
use Rattle.par_base.specs.declared.fault.Fault.{Fault}
use Rattle.par_base.specs.declared.fault.Fault.TheVariants.{Refused, Memory}
use Rattle.par_base.specs.declared.refusal.Refusal.{Refusal}
use Rattle.par_base.specs.declared.refusal.Refusal.TheVariants.{VersionExists}
use Rattle.version_graph.specs.Sets.{In, Each}
use Rattle.version_graph.specs.Tables.{table_numbers, headings_of, FitInOrder}
use Rattle.version_graph.specs.Edges.{Drawn, AreEdges, numbers, working, made, operator_limit, set_named}
use Rattle.version_graph.specs.Kept.{IsRight, edges_of}
use Rattle.version_graph.specs.Evolve.{start_of, refused_start, refused_limit, limit_at, limit_passed, targets_in}
use Rattle.version_graph.specs.Placing.{CanPlace, last_of}
use Rattle.version_graph.specs.declared.parts.Edge.{Edge}
use Rattle.version_graph.specs.declared.parts.NotGraph.{NotGraph}
use Rattle.version_graph.specs.declared.parts.Placed.{Placed}
use Rattle.version_graph.specs.declared.node.Node.{Node}
use Rattle.version_graph.specs.declared.node.Last.{Last}

-- one node more, of an edge on the others, after this last table number
abbrev pub AddsNode : {O : Type 0} → List (Node O) → ℕ → Placed O → List (Node O) → Type 0
AddsNode {O} nodes last e new = (n : Node O) × (new ≡ nodes ++ n ∷ []) × (n.placed ≡ e) × IsRight (edges_of nodes) n × (n.last_before ≡ last)

-- the nodes before the place have lesser numbers, and those from it on have not
pub record IsPlaceFor {O : Type 0} (nodes : List (Node O)) (number place : ℕ) : Type 0 where
  pub within : place ≤ length nodes
  pub older : (i : ℕ) (k : Node O) → i < place → (slice_index_or nodes i k).placed.number < number
  pub others : (i : ℕ) (k : Node O) → place ≤ i → i < length nodes → number ≤ (slice_index_or nodes i k).placed.number

-- the table was given after the last one before each node that stands before the place, and after that of no other
pub record IsPlaceBehind {O : Type 0} (nodes : List (Node O)) (table place : ℕ) : Type 0 where
  pub within : place ≤ length nodes
  pub older : (i : ℕ) (k : Node O) → i < place → (slice_index_or nodes i k).last_before < table
  pub others : (i : ℕ) (k : Node O) → place ≤ i → i < length nodes → table ≤ (slice_index_or nodes i k).last_before

-- edges may be added on a working set after these numbers
pub record CanGrow {O : Type 0} (es : List (Placed O)) (parent operator table : ℕ) (more : List (Edge O)) : Type 0 where
  pub edges : AreEdges es
  pub live : In parent (0 ∷ numbers es)
  pub operators : Each (λ n. n ≤ operator) (numbers es)
  pub tables : Each (λ t. t ≤ table) (table_numbers (made es))
  pub fits : FitInOrder (headings_of (working es parent)) more
  pub few_operators : operator + length more < 2 ^ 32
  pub few_tables : table + targets_in more < 2 ^ 32

-- an edge may be added on a working set after these numbers, and others after it
abbrev pub CanAdd : {O : Type 0} → List (Placed O) → ℕ → ℕ → ℕ → Edge O → Type 0
CanAdd {O} es parent operator table e = (more : List (Edge O)) × CanGrow es parent operator table (e ∷ more)

abbrev pub FindsStart : List (List ℕ × ℕ) → Option (List ℕ) → Result ℕ (Fault Refusal) → Type 0
FindsStart versions from (Ok w) = start_of versions from ≡ Some w
FindsStart versions from (Err (Refused r)) = (start_of versions from ≡ None) × (refused_start from None None ≡ Some r)
FindsStart versions from (Err (Memory memory)) = ⊤

abbrev pub IsUnused : List (List ℕ × ℕ) → List ℕ → Result (List ℕ) (Fault Refusal) → Type 0
IsUnused versions name (Ok same) = (same ≡ name) × (set_named versions name ≡ None)
IsUnused versions name (Err (Refused r)) = (w : ℕ) × (set_named versions name ≡ Some w) × (r ≡ VersionExists name)
IsUnused versions name (Err (Memory memory)) = ⊥

abbrev pub FindsRoom : {O : Type 0} → ℕ → Last → List (Edge O) → Result Last (Fault Refusal) → Type 0
FindsRoom live last edges (Ok after) =
    (limit_passed live last.operator last.table edges ≡ None) × (after.operator ≡ last.operator + length edges) × (after.table ≡ last.table + targets_in edges) × (live + length edges ≤ operator_limit) × (after.operator < 2 ^ 32) × (after.table < 2 ^ 32)
FindsRoom live last edges (Err (Refused r)) = refused_limit (limit_passed live last.operator last.table edges) ≡ Some r
FindsRoom live last edges (Err (Memory memory)) = ⊥

-- the last numbers after an edge, where it may be placed
abbrev pub FindsPlace : {O : Type 0} → Drawn O → Placed O → Result Last (Fault NotGraph) → Type 0
FindsPlace g e (Ok after) = CanPlace g e × (after.operator ≡ e.number) × (after.table ≡ last_of g.last_table e.tables)
FindsPlace g e (Err (Refused r)) = CanPlace g e → ⊥
FindsPlace g e (Err (Memory memory)) = ⊥

abbrev pub FindsRoomAt : ℕ → Last → ℕ → Result Last (Fault Refusal) → Type 0
FindsRoomAt live last targets (Ok after) = (limit_at live last.operator last.table targets ≡ None) × (after.operator ≡ last.operator + 1) × (after.table ≡ last.table + targets) × (live < operator_limit) × (after.operator < 2 ^ 32) × (after.table < 2 ^ 32)
FindsRoomAt live last targets (Err (Refused r)) = refused_limit (limit_at live last.operator last.table targets) ≡ Some r
FindsRoomAt live last targets (Err (Memory memory)) = ⊥
