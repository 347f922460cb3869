-- Tables that are read from others.
use Rattle.std.specs.Prelude.{◌≡◌, ℕ, List, None}
use Rattle.version_graph.specs.Sets.{In}
use Rattle.version_graph.specs.Tables.{table_numbers}
use Rattle.version_graph.specs.Edges.{made}
use Rattle.version_model.specs.Kept.{value_of}
use Rattle.db_state.specs.Parts.{IsWay}
use Rattle.db_state.specs.declared.parts.Parts.{Parts}

-- a live table that isn't stored, and the operators on its way to storage
pub record IsMadeOver {O : Type 0} (d : Parts O) (table : ℕ) (operators : List ℕ) : Type 0 where
  pub lives : In table (table_numbers (made d.graph.edges))
  pub unstored : value_of d.stored table ≡ None
  pub way : IsWay d.graph.edges d.layout.operators table operators
