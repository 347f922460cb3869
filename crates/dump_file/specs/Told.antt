-- What the dump of a database tells.
use Rattle.std.specs.Prelude.{ℕ, Bool, true, false, List, [], ◌∷◌, map, filter}
use Rattle.std.specs.Option.{option_map_or}
use Rattle.row_store.specs.Rows.{Rows}
use Rattle.row_store.specs.States.{TableState}
use Rattle.id_memory.specs.Pairs.{Pairs}
use Rattle.id_memory.specs.States.{MemoryState}
use Rattle.serde_json.specs.Data.{Data}
use Rattle.statements.specs.Views.{KeyView, Primary, Foreign, Condition, OpView, Decompose, Join}
use Rattle.version_graph.specs.Edges.{edge_of}
use Rattle.version_graph.specs.declared.parts.Placed.{Placed}
use Rattle.op_law.specs.Calls.{tables_of}
use Rattle.op_law.specs.declared.side.Aux.{Aux}
use Rattle.op_any.specs.Operators.{AnyView}
use Rattle.version_model.specs.declared.numbered.Numbered.{Numbered}
use Rattle.db_state.specs.declared.parts.Parts.{Parts}
use Rattle.dump_values.specs.Dumps.{Dump, Kept, dump_json}
use Rattle.dump_graph.specs.Told.{graph_told}

-- ---- what is stored

-- whether the two tables of an operator belong together by a condition
abbrev pub is_by_condition : KeyView → Bool
is_by_condition Primary = false
is_by_condition (Foreign column) = false
is_by_condition (Condition condition) = true

-- whether an operator is on a condition: these alone keep a memory
abbrev pub is_on_condition : OpView → Bool
is_on_condition (Decompose table first first_columns second second_columns key) = is_by_condition key
is_on_condition (Join outer first second target key) = is_by_condition key
is_on_condition _ = false

-- whether the live operator of a number is
abbrev pub remembers : List (Placed AnyView) → ℕ → Bool
remembers es n = option_map_or (λ (e : Placed AnyView). is_on_condition e.edge.operator.text) (edge_of es n) false

abbrev pub stored_line : Numbered TableState → ℕ × Rows
stored_line i = (i.number, i.value.rows)

abbrev pub aux_line : Numbered Aux → ℕ × List Rows
aux_line i = (i.number, tables_of i.value)

abbrev pub memory_line : Numbered MemoryState → ℕ × Pairs
memory_line i = (i.number, i.value.entries)

-- whether there is a table, be it empty
abbrev pub is_some_table : List Rows → Bool
is_some_table [] = false
is_some_table (t ∷ ts) = true

-- whether an operator keeps auxiliary tables on its stored side
abbrev pub has_tables : ℕ × List Rows → Bool
has_tables line = is_some_table line.1

-- the operators with auxiliary tables alone
abbrev pub auxes_told : List (Numbered Aux) → List (ℕ × List Rows)
auxes_told auxes = filter has_tables (map aux_line auxes)

-- the operators on a condition alone
abbrev pub memories_told : List (Placed AnyView) → List (Numbered MemoryState) → List (ℕ × Pairs)
memories_told es memories = filter (λ (line : ℕ × Pairs). remembers es line.0) (map memory_line memories)

abbrev pub kept_told : Parts AnyView → Kept
kept_told p = record {
  layout = p.layout.operators;
  stored = map stored_line p.stored;
  auxes = auxes_told p.aux;
  memories = memories_told p.graph.edges p.memories;
  next = p.ids.next;
}

-- ---- the whole

-- WHAT A DUMP TELLS: everything but the greatest identifier that may be drawn
abbrev pub dump_told : Parts AnyView → Dump
dump_told p = record { graph = graph_told p.graph; kept = kept_told p }

-- the dump as JSON
abbrev pub database_json : Parts AnyView → Data
database_json p = dump_json (dump_told p)
