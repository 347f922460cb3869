-- What a database keeps, and the state for which it stands.
use Rattle.std.specs.Prelude.{◌≡◌, ◌↔◌, ℕ, List, [], if◌then◌else◌}
use mathlib.Core.List.{reverse}
use Rattle.version_graph.specs.Sets.{In, Each}
use Rattle.version_graph.specs.Tables.{table_numbers}
use Rattle.version_graph.specs.Edges.{IsGraph, Rises, is_in, made, numbers}
use Rattle.version_graph.specs.Finished.{IsFinished}
use Rattle.version_graph.specs.Forest.{forest}
use Rattle.op_law.specs.Meaning.{Meaning}
use Rattle.layout_rules.specs.Layouts.{IsStored, IsValid}
use Rattle.version_model.specs.Kept.{Database, HasSides, auxes_at, numbers_in, pairs_at, rows_at}
use Rattle.version_model.specs.Sound.{IsSound}
use Rattle.version_model.specs.States.{State}
use Rattle.storage_law.specs.Storage.{Stands, Storage}
use Rattle.storage_law.specs.Reading.{ReadsSources, read_all}
use Rattle.db_state.specs.declared.parts.Parts.{Parts}

-- what the fields store
abbrev pub storage_in : {O : Type 0} → Parts O → Storage
storage_in p = record { layout = p.layout.operators; stored = rows_at p.stored; aux = auxes_at p.aux; memory = pairs_at p.memories }

-- THE STATE FOR WHICH THE FIELDS STAND: each live table as it is read back, each memory, and the next identifier
abbrev pub state_for : {O : Type 0} → (O → Meaning) → Parts O → State
state_for meaning p = record {
  tables = λ t. if is_in t (table_numbers (made p.graph.edges)) then read_all meaning (storage_in p) (forest p.graph.edges) t else [];
  memory = pairs_at p.memories;
  next = p.ids.next;
}

-- the model's database, which has no layout
abbrev pub database_for : {O : Type 0} → (O → Meaning) → Parts O → Database O
database_for meaning p = record { graph = p.graph; state = state_for meaning p; limit = p.ids.limit }

-- CANONICAL STORAGE
pub record IsDatabase {O : Type 0} (meaning : O → Meaning) (p : Parts O) : Type 0 where
  pub reads : ReadsSources meaning
  pub graph : IsGraph p.graph
  pub finished : IsFinished p.graph
  pub sides : Each HasSides (forest p.graph.edges)
  pub valid : IsValid (forest p.graph.edges) p.layout.operators
  pub ascending : Rises 0 p.layout.operators
  -- there is a table for each stored table version, and auxiliary tables and a memory for each operator, ascending
  pub tables : (t : ℕ) → In t (numbers_in p.stored) ↔ IsStored (forest p.graph.edges) p.layout.operators t
  pub tables_ascending : Rises 0 (numbers_in p.stored)
  pub auxes : numbers_in p.aux ≡ reverse (numbers p.graph.edges)
  pub memories : numbers_in p.memories ≡ reverse (numbers p.graph.edges)
  -- what they hold is what is stored of the state, which is sound
  pub stands : Stands meaning p.graph.edges (storage_in p) (state_for meaning p)
  pub sound : IsSound meaning p.graph.edges (state_for meaning p)
