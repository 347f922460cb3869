-- What a graph keeps of its edges.
use Rattle.std.specs.Prelude.{filter_map, ◌≡◌, ℕ, ◌<◌, ◌≤◌, cond, ◌==◌, List, [], ◌∷◌, ◌++◌, map, Option, option_map}
use Rattle.std.specs.List.{find}
use mathlib.Core.List.{reverse}
use Rattle.version_graph.specs.Sets.{Each}
use Rattle.version_graph.specs.Tables.{TableVersion, table_numbers}
use Rattle.version_graph.specs.Edges.{Drawn, is_in, made_by_edge, number_named, sources_of, working, set_after, IsGraph}
use Rattle.version_graph.specs.Forest.{forest, tree}
use Rattle.version_graph.specs.declared.parts.Placed.{Placed}
use Rattle.version_graph.specs.declared.node.Node.{Node}
use Rattle.version_graph.specs.declared.node.Parts.{Parts}
use Rattle.version_graph.specs.declared.parts.Heading.{Heading}

-- the edges of nodes, in their order
abbrev pub placed_in : {O : Type 0} → List (Node O) → List (Placed O)
placed_in {O} nodes = map (λ (n : Node O). n.placed) nodes

-- the edges of ascending nodes, the newest first
abbrev pub edges_of : {O : Type 0} → List (Node O) → List (Placed O)
edges_of nodes = placed_in (reverse nodes)

-- the number of the oldest edge of an edge's tree
abbrev pub tree_on : {O : Type 0} → List (Placed O) → Placed O → ℕ
tree_on es e = cond (e.parent == 0) e.number (tree (forest es) e.parent)

-- a node on older edges
pub record IsRight {O : Type 0} (es : List (Placed O)) (n : Node O) : Type 0 where
  pub sources : n.sources ≡ table_numbers (sources_of es n.placed)
  pub set : n.set ≡ table_numbers (set_after (working es n.placed.parent) n.placed)
  pub tree : n.tree ≡ tree_on es n.placed

-- the nodes, the newest first
abbrev pub AreRight : {O : Type 0} → List (Node O) → Type 0
AreRight [] = Unit {0}
AreRight (n ∷ nodes) = IsRight (placed_in nodes) n × AreRight nodes

-- a node is marked by the last table number before it: its tables were given after that one, up to this last one
pub record IsMarked {O : Type 0} (last : ℕ) (n : Node O) : Type 0 where
  pub before : n.last_before ≤ last
  pub tables : Each (λ t. (n.last_before < t) × (t ≤ last)) n.placed.tables

-- the nodes, the newest first, up to the last table number
abbrev pub AreMarked : {O : Type 0} → ℕ → List (Node O) → Type 0
AreMarked last [] = Unit {0}
AreMarked last (n ∷ nodes) = IsMarked last n × AreMarked n.last_before nodes

-- ascending nodes, up to some last table number
abbrev pub HaveMarks : {O : Type 0} → List (Node O) → Type 0
HaveMarks nodes = (last : ℕ) × AreMarked last (reverse nodes)

abbrev pub node_of : {O : Type 0} → List (Node O) → ℕ → Option (Node O)
node_of {O} nodes n = find (λ (k : Node O). n == k.placed.number) (reverse nodes)

-- the node of the operator that made a table
abbrev pub node_making : {O : Type 0} → List (Node O) → ℕ → Option (Node O)
node_making {O} nodes t = find (λ (k : Node O). is_in t k.placed.tables) (reverse nodes)

abbrev pub heading_in : {O : Type 0} → Placed O → ℕ → Option Heading
heading_in e t = option_map (λ (v : TableVersion). v.heading) (find (λ (v : TableVersion). t == v.number) (made_by_edge e))

-- those of these tables that have the names, in order of the names
abbrev pub numbers_named : {O : Type 0} → List (Placed O) → List ℕ → List (List ℕ) → List ℕ
numbers_named es ts names = filter_map (number_named es ts) names

-- the working sets that are needed, where these nodes stay
abbrev pub needed_by : {O : Type 0} → List (Node O) → List ℕ → List ℕ
needed_by {O} above sets = map (λ (n : Node O). n.placed.parent) above ++ sets

-- the nodes that stay, the newest first
abbrev pub staying_nodes : {O : Type 0} → List ℕ → List (Node O) → List (Node O)
staying_nodes needed [] = []
staying_nodes needed (n ∷ nodes) = cond (is_in n.placed.number needed) (n ∷ staying_nodes (n.placed.parent ∷ needed) nodes) (staying_nodes needed nodes)

-- the graph that the parts stand for
abbrev pub drawn : {O : Type 0} → Parts O → Drawn O
drawn p = record { edges = edges_of p.nodes.items; versions = p.versions.entries; last_operator = p.last.operator; last_table = p.last.table }

pub record IsKept {O : Type 0} (p : Parts O) : Type 0 where
  pub right : AreRight (reverse p.nodes.items)
  pub marked : AreMarked p.last.table (reverse p.nodes.items)
  pub graph : IsGraph (drawn p)
