-- Laws of costs.
use Rattle.std.specs.Prelude.{◌≡◌, ◌↔◌, ℕ, true, ◌∷◌, [], List, length, Some, Ok, sum_by}
use Rattle.std.specs.Option.{IsSome}
use Rattle.version_graph.specs.Sets.{In}
use Rattle.version_graph.specs.Edges.{AreEdges, Drawn, IsGraph, Rises, set_named}
use Rattle.version_graph.specs.Forest.{forest}
use Rattle.version_graph.specs.declared.parts.Placed.{Placed}
use Rattle.layout_rules.specs.Closed.{closed_layout, closing}
use Rattle.layout_rules.specs.Layouts.{IsValid}
use Rattle.layout_rules.specs.Ways.{IsOnWay}
use Rattle.layout_planner.specs.Costs.{creates, in_tree, table_cost, tables_of, version_cost, way_length, whole}
use Rattle.layout_planner.specs.declared.planning.TableCount.{TableCount}

-- MATERIALIZE of a version is never refused, and the CREATE TABLE operators are a valid layout
abbrev pub VersionsAreStored : Type 0 → Type 0
VersionsAreStored O = (g : Drawn O) → IsGraph g → (layout name : List ℕ) → IsSome (set_named g.versions name) → closing g layout (whole name ∷ []) ≡ Ok (closed_layout g layout (whole name ∷ []))

abbrev pub CreatesAreValid : Type 0 → Type 0
CreatesAreValid O = (es : List (Placed O)) → AreEdges es → IsValid (forest es) (creates es)

-- from each valid layout MATERIALIZE of a version of a tree gives a layout under which the accesses of the tree cost just what is told of the version
abbrev pub MovesHaveCosts : Type 0 → Type 0
MovesHaveCosts O = (g : Drawn O) → IsGraph g → (layout : List ℕ) → IsValid (forest g.edges) layout → (name : List ℕ) (v w : ℕ) → set_named g.versions name ≡ Some v → in_tree g.edges w v ≡ true → (counts : List TableCount)
    → let tables = tables_of g.edges (in_tree g.edges w) in
    (new : List ℕ) × (closing g layout (whole name ∷ []) ≡ Ok new) × (sum_by (table_cost g.edges new counts) tables ≡ (version_cost g counts tables name).cost)

-- the length of a way is the number of the operators on it
abbrev pub WaysAreCounted : Type 0 → Type 0
WaysAreCounted O = (es : List (Placed O)) → AreEdges es → (layout : List ℕ) → IsValid (forest es) layout → (t : ℕ) (way : List ℕ) → Rises 0 way → ((n : ℕ) → In n way ↔ IsOnWay (forest es) layout t n)
    → length way ≡ way_length (forest es) layout t
