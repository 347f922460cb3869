-- CREATE SCHEMA VERSION and DROP SCHEMA VERSION: the checks in their order, and the state after each.
use Rattle.std.specs.Prelude.{ℕ, ◌+◌, List, [], ◌∷◌, length, Option, Some, None, Ok, Err}
use Rattle.par_base.specs.declared.refusal.Refusal.TheVariants.{VersionExists, TooManyOperators}
use Rattle.statements.specs.Views.{OpView, DropTable, Decompose, Split}
use Rattle.version_graph.specs.Tables.{headings_of, headings_after}
use Rattle.version_graph.specs.Edges.{Drawn, set_named, working}
use Rattle.version_graph.specs.Evolve.{evolved, limit_at}
use Rattle.version_graph.specs.declared.parts.Heading.{Heading}
use Rattle.version_graph.specs.declared.parts.Edge.{Edge}
use Rattle.par_base.specs.Checked.{Checked, ◌then◌}
use Rattle.op_any.specs.Operators.{AnyView, any_meaning}
use Rattle.op_any.specs.Build.{built}
use Rattle.version_model.specs.Evolving.{grown_state}
use Rattle.version_model.specs.Databases.{dropped_database}
use Rattle.engine_state.specs.AnyDatabase.{AnyDatabase}
use Rattle.engine_state.specs.SharedChecks.{known_version, enough_ids}
use Rattle.engine_versions.specs.declared.edges.Counts.{Counts}

-- ---- operators, one after the other

-- how many tables an operator makes, by its text
abbrev pub target_count : OpView → ℕ
target_count (DropTable table) = 0
target_count (Decompose table first first_columns second second_columns key) = 2
target_count (Split table first (Some second)) = 2
target_count _ = 1

-- with one operator more, which makes so many tables
abbrev pub with_one : Counts → ℕ → Counts
with_one counts targets = record { live = counts.live + 1; operator = counts.operator + 1; table = counts.table + targets }

abbrev pub counts_of : Drawn AnyView → Counts
counts_of g = record { live = length g.edges; operator = g.last_operator; table = g.last_table }

-- no limit is passed
abbrev pub within_limit : Option ℕ → Checked (Unit {0})
within_limit (Some limit) = Err (TooManyOperators limit)
within_limit None = Ok tt

-- one operator more passes no limit
abbrev pub room_for : Counts → OpView → Checked (Unit {0})
room_for counts text = within_limit (limit_at counts.live counts.operator counts.table (target_count text))

-- what the operators build, each on the tables that the one before it leaves, while `next` is the next identifier
unfoldable pub edges_on : List Heading → Counts → ℕ → List OpView → Checked (List (Edge AnyView))
edges_on set counts next [] = Ok []
edges_on set counts next (text ∷ texts) =
    room_for counts text then λ _.
    built set next text then λ edge.
    edges_on (headings_after set edge) (with_one counts (target_count text)) next texts then λ edges.
    Ok (edge ∷ edges)

-- ---- CREATE SCHEMA VERSION v FROM w WITH ..

-- the working set from which it starts: that of the version that FROM names, else the empty one
abbrev pub start_at : List (List ℕ × ℕ) → Option (List ℕ) → Checked ℕ
start_at versions None = Ok 0
start_at versions (Some name) = known_version name (set_named versions name)

-- the new name is that of no live version
abbrev pub unused : List ℕ → Option ℕ → Checked (Unit {0})
unused name (Some set) = Err (VersionExists name)
unused name None = Ok tt

-- the state with these operators on a working set, and a name for the last one's
abbrev pub state_after : AnyDatabase → List ℕ → ℕ → List (Edge AnyView) → AnyDatabase
state_after s name set edges = record s {
  graph = evolved s.graph name set edges;
  state = grown_state any_meaning s.graph.edges set s.graph.last_operator s.graph.last_table edges s.state;
}

abbrev pub created : AnyDatabase → List ℕ → Option (List ℕ) → List OpView → Checked AnyDatabase
created s name from texts =
    start_at s.graph.versions from then λ set.
    unused name (set_named s.graph.versions name) then λ _.
    edges_on (headings_of (working s.graph.edges set)) (counts_of s.graph) s.state.next texts then λ edges.
    enough_ids s (state_after s name set edges).state.next then λ _.
    Ok (state_after s name set edges)

-- ---- DROP SCHEMA VERSION v

-- the name goes, and each operator that no name needs any longer
abbrev pub dropped_version : AnyDatabase → List ℕ → Checked AnyDatabase
dropped_version s name =
    known_version name (set_named s.graph.versions name) then λ _.
    Ok (dropped_database s name)
