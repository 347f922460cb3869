-- The tables of a version, under their names.
use Rattle.std.specs.Prelude.{ℕ, List, [], map, Option, Some, None}
use Rattle.row_store.specs.Rows.{Rows}
use Rattle.change_feed.specs.Shown.{Named}
use Rattle.version_graph.specs.Tables.{TableVersion}
use Rattle.version_graph.specs.Edges.{set_named, working}
use Rattle.version_model.specs.Kept.{Database}

-- table versions with these rows
abbrev pub named_with : (ℕ → Rows) → List TableVersion → Named
named_with rows tables = map {A = TableVersion} {B = List ℕ × Rows} (λ t. (t.heading.name, rows t.number)) tables

-- those of a working set, in its order
abbrev pub tables_in : {O : Type 0} → Database O → ℕ → Named
tables_in d set = named_with d.state.tables (working d.graph.edges set)

abbrev pub tables_at : {O : Type 0} → Database O → Option ℕ → Named
tables_at d None = []
tables_at d (Some set) = tables_in d set

-- those of the version with this name: none where it doesn't live
abbrev pub tables_of : {O : Type 0} → Database O → List ℕ → Named
tables_of d version = tables_at d (set_named d.graph.versions version)
