-- The source tables of an evolution: those tables of its first working set that some edge names.
use Rattle.std.specs.Prelude.{◌≡◌, ℕ, Bool, false, List, [], ◌∷◌, ◌++◌, Option, Some, None, unwrap_or, option_map, filter}
use Rattle.std.specs.List.{list_any}
use Rattle.std.specs.Option.{option_map_or}
use Rattle.row_store.specs.States.{TableState}
use Rattle.version_graph.specs.Sets.{In}
use Rattle.version_graph.specs.Tables.{is_among, table_numbers}
use Rattle.version_graph.specs.Edges.{Drawn, heading_of, set_named, working}
use Rattle.version_graph.specs.declared.parts.Edge.{Edge}
use Rattle.version_graph.specs.declared.parts.Heading.{Heading}
use Rattle.version_graph.specs.declared.parts.Placed.{Placed}
use Rattle.version_model.specs.States.{State}
use Rattle.version_model.specs.declared.numbered.Numbered.{Numbered}
use Rattle.version_model.specs.Kept.{numbers_in}

-- whether some edge names a table with this heading as a source
abbrev pub is_named : {O : Type 0} → List (Edge O) → Heading → Bool
is_named {O} edges h = list_any (λ (e : Edge O). is_among e.sources h) edges

-- whether some edge names this live table as a source
abbrev pub is_source : {O : Type 0} → List (Placed O) → List (Edge O) → ℕ → Bool
is_source es edges t = option_map_or (is_named edges) (heading_of es t) false

-- the tables of the working set from which an evolution starts: none without FROM
abbrev pub first_tables : {O : Type 0} → Drawn O → Option (List ℕ) → List ℕ
first_tables g None = []
first_tables g (Some name) = unwrap_or (option_map (λ w. table_numbers (working g.edges w)) (set_named g.versions name)) []

-- these tables of a state
pub record AreRead (s : State) (tables : List ℕ) (read : List (Numbered TableState)) : Type 0 where
  pub numbers : numbers_in read ≡ tables
  pub values : (i : Numbered TableState) → In i read → i.value.rows ≡ s.tables i.number

-- the source tables of an evolution, of a state
abbrev pub AreSources : {O : Type 0} → Drawn O → State → Option (List ℕ) → List (Edge O) → List (Numbered TableState) → Type 0
AreSources g s from edges read = AreRead s (filter (is_source g.edges edges) (first_tables g from)) read

-- a table more, where it passes the test
abbrev pub ReadsMore : State → (ℕ → Bool) → ℕ → List (Numbered TableState) → List (Numbered TableState) → Type 0
ReadsMore s test t old new = (ts : List ℕ) → AreRead s (filter test ts) old → AreRead s (filter test (ts ++ t ∷ [])) new
