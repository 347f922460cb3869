-- What the dump of a state tells under a layout, and its JSON.
use Rattle.std.specs.Prelude.{ℕ, List, filter, map}
use mathlib.Core.List.{reverse}
use Rattle.row_store.specs.Rows.{Rows}
use Rattle.id_memory.specs.Pairs.{Pairs}
use Rattle.serde_json.specs.Data.{Data}
use Rattle.version_graph.specs.Edges.{numbers}
use Rattle.version_graph.specs.Forest.{Link, forest}
use Rattle.op_any.specs.Operators.{AnyView, any_meaning}
use Rattle.layout_rules.specs.Lookups.{is_stored, tables_up}
use Rattle.version_model.specs.Kept.{Database}
use Rattle.storage_law.specs.Storage.{aux_of, stored_way}
use Rattle.dump_values.specs.Dumps.{Dump, Kept, dump_json}
use Rattle.dump_graph.specs.Told.{graph_told}
use Rattle.dump_file.specs.Told.{has_tables, remembers}

-- the stored tables by ascending number, with their rows
abbrev pub tables_stored : Database AnyView → List ℕ → List (ℕ × Rows)
tables_stored d layout = map (λ (t : ℕ). (t, d.state.tables t)) (filter (is_stored d.graph.edges layout) (tables_up d.graph.edges))

-- the auxiliary tables of each operator, by ascending number, where it has any
abbrev pub auxes_stored : Database AnyView → List ℕ → List (ℕ × List Rows)
auxes_stored d layout = filter has_tables (map (λ (l : Link AnyView). (l.number, aux_of any_meaning d.state (stored_way layout l))) (reverse (forest d.graph.edges)))

-- the memory of each operator on a condition, by ascending number
abbrev pub memories_stored : Database AnyView → List (ℕ × Pairs)
memories_stored d = filter (λ (line : ℕ × Pairs). remembers d.graph.edges line.0) (map (λ (n : ℕ). (n, d.state.memory n)) (reverse (numbers d.graph.edges)))

abbrev pub kept_stored : Database AnyView → List ℕ → Kept
kept_stored d layout = record {
  layout = layout;
  stored = tables_stored d layout;
  auxes = auxes_stored d layout;
  memories = memories_stored d;
  next = d.state.next;
}

-- WHAT THE DUMP OF A STATE TELLS: its graph, the layout, and what this layout stores of it
abbrev pub state_told : Database AnyView → List ℕ → Dump
state_told d layout = record { graph = graph_told d.graph; kept = kept_stored d layout }

-- its JSON: each state has one
abbrev pub state_json : Database AnyView → List ℕ → Data
state_json d layout = dump_json (state_told d layout)
