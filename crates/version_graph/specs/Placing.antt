-- A graph is built again with its numbers: edges are placed, then names, and then the last numbers given.
use Rattle.std.specs.Prelude.{◌≡◌, ℕ, ◌<◌, ◌≤◌, nat_lt, List, [], ◌∷◌, ◌++◌, length, Option, Some, None, Result, Ok, Err, if◌then◌else◌}
use Rattle.par_base.specs.declared.fault.Fault.{Fault}
use Rattle.par_base.specs.declared.fault.Fault.TheVariants.{Refused, Memory}
use Rattle.version_graph.specs.Sets.{In}
use Rattle.version_graph.specs.Tables.{headings_of, FitsSet}
use Rattle.version_graph.specs.Edges.{Drawn, Rises, numbers, working, set_named, version_sets, operator_limit}
use Rattle.version_graph.specs.Finished.{IsFinished}
use Rattle.version_graph.specs.declared.parts.NotGraph.{NotGraph}
use Rattle.version_graph.specs.declared.parts.Placed.{Placed}

-- ---- an edge

-- the edge fits its parent's working set, where there is one
abbrev pub FitsParent : {O : Type 0} → Drawn O → Placed O → Type 0
FitsParent g e = In e.parent (0 ∷ numbers g.edges) → FitsSet (headings_of (working g.edges e.parent)) e.edge

-- an edge may come next under its numbers
pub record CanPlace {O : Type 0} (g : Drawn O) (e : Placed O) : Type 0 where
  pub room : length g.edges < operator_limit
  pub next : g.last_operator < e.number
  pub stands : In e.parent (0 ∷ numbers g.edges)
  pub counted : length e.tables ≡ length e.edge.targets
  -- they rise, and the first is above the last one given
  pub rising : Rises g.last_table e.tables

-- the last of these numbers, else the number before them
abbrev pub last_of : ℕ → List ℕ → ℕ
last_of n [] = n
last_of n (k ∷ ks) = last_of k ks

-- the graph with one edge more
abbrev pub with_edge : {O : Type 0} → Drawn O → Placed O → Drawn O
with_edge g e = record { edges = e ∷ g.edges; versions = g.versions; last_operator = e.number; last_table = last_of g.last_table e.tables }

abbrev pub PlacesEdge : {O : Type 0} → Drawn O → Placed O → Result (Unit {0}) (Fault NotGraph) → Drawn O → Type 0
PlacesEdge g e (Ok done) new = CanPlace g e × (new ≡ with_edge g e)
PlacesEdge g e (Err (Refused r)) new = (CanPlace g e → ⊥) × (new ≡ g)
PlacesEdge g e (Err (Memory memory)) new = new ≡ g

-- ---- a name

-- a working set may get this name
pub record CanName {O : Type 0} (g : Drawn O) (name : List ℕ) (set : ℕ) : Type 0 where
  pub unused : set_named g.versions name ≡ None
  pub lives : In set (numbers g.edges)
  pub unnamed : In set (version_sets g.versions) → ⊥

-- the graph with one version more
abbrev pub with_version : {O : Type 0} → Drawn O → List ℕ → ℕ → Drawn O
with_version g name set = record { edges = g.edges; versions = g.versions ++ (name, set) ∷ []; last_operator = g.last_operator; last_table = g.last_table }

abbrev pub PlacesVersion : {O : Type 0} → Drawn O → List ℕ → ℕ → Result (Unit {0}) (Fault NotGraph) → Drawn O → Type 0
PlacesVersion g name set (Ok done) new = CanName g name set × (new ≡ with_version g name set)
PlacesVersion g name set (Err (Refused r)) new = (CanName g name set → ⊥) × (new ≡ g)
PlacesVersion g name set (Err (Memory memory)) new = new ≡ g

-- ---- the end

-- these may be the last numbers given
pub record CanEnd {O : Type 0} (g : Drawn O) (operator table : ℕ) : Type 0 where
  pub operators : g.last_operator ≤ operator
  pub tables : g.last_table ≤ table
  pub finished : IsFinished g

-- the graph with other last numbers
abbrev pub with_last : {O : Type 0} → Drawn O → ℕ → ℕ → Drawn O
with_last g operator table = record { edges = g.edges; versions = g.versions; last_operator = operator; last_table = table }

abbrev pub EndsPlacing : {O : Type 0} → Drawn O → ℕ → ℕ → Result (Unit {0}) NotGraph → Drawn O → Type 0
EndsPlacing g operator table (Ok done) new = CanEnd g operator table × (new ≡ with_last g operator table)
EndsPlacing g operator table (Err r) new = (CanEnd g operator table → ⊥) × (new ≡ g)

-- ---- what inner calls find

-- the last of these numbers, where they rise and the first is above the number before them
abbrev pub top_of : ℕ → List ℕ → Option ℕ
top_of n [] = Some n
top_of n (k ∷ ks) = if nat_lt n k then top_of k ks else None
