-- SHOW LAYOUT: the stored tables, and the operators with what is stored of each.
use Rattle.std.specs.Prelude.{ℕ, ◌+◌, ◌++◌, Bool, true, false, List, [], ◌∷◌, map, filter, length, codes}
use Rattle.std.specs.Option.{option_map_or}
use mathlib.Core.List.{reverse}
use Rattle.statements.specs.Views.{KeyView, Primary, Foreign, Condition, OpView, CreateTable, DropTable, RenameTable, RenameColumn, AddColumn, DropColumn, DecomposeSingle, Decompose, Join, Split, Merge}
use Rattle.version_graph.specs.Edges.{heading_of, is_in}
use Rattle.version_graph.specs.Forest.{Link, forest}
use Rattle.version_graph.specs.declared.parts.Heading.{Heading}
use Rattle.version_graph.specs.declared.parts.Placed.{Placed}
use Rattle.op_law.specs.Tables.{Tables}
use Rattle.engine_state.specs.Operators.{AnyView, any_meaning}
use Rattle.layout_rules.specs.Lookups.{is_stored, tables_up}
use Rattle.storage_law.specs.Storage.{aux_of, stored_way}
use Rattle.engine_state.specs.AnyDatabase.{AnyDatabase}
use Rattle.engine_state.specs.declared.reply.StoredOperator.{StoredOperator}
use Rattle.engine_state.specs.declared.reply.StoredTable.{StoredTable}
use Rattle.engine_layouts.specs.Laid.{Laid}

-- ---- tables

-- the name of a live table
abbrev pub name_at : List (Placed AnyView) → ℕ → List ℕ
name_at es t = option_map_or (λ (h : Heading). h.name) (heading_of es t) []

abbrev pub shown_table : AnyDatabase → ℕ → StoredTable
shown_table s t = record { number = t; name = name_at s.graph.edges t; rows = length (s.state.tables t) }

-- the stored tables by ascending number
abbrev pub shown_tables : Laid → List StoredTable
shown_tables s = map (shown_table s.database) (filter (is_stored s.database.graph.edges s.layout) (tables_up s.database.graph.edges))

-- ---- operators

-- how a key ends the name of a kind
abbrev pub key_word : KeyView → List ℕ
key_word Primary = codes "pk"
key_word (Foreign column) = codes "fk"
key_word (Condition condition) = codes "on"

abbrev pub join_word : Bool → List ℕ
join_word true = codes "outer_join_"
join_word false = codes "join_"

abbrev pub added_word : Bool → List ℕ
added_word true = codes "add_tracked"
added_word false = codes "add_column"

-- the name of an operator's kind
abbrev pub kind_word : OpView → List ℕ
kind_word (CreateTable table columns) = codes "create_table"
kind_word (DropTable table) = codes "drop_table"
kind_word (RenameTable table new) = codes "rename_table"
kind_word (RenameColumn column table new) = codes "rename_column"
kind_word (AddColumn column value table tracked) = added_word tracked
kind_word (DropColumn column table value) = codes "drop_column"
kind_word (DecomposeSingle table target columns) = codes "decompose"
kind_word (Decompose table first first_columns second second_columns key) = codes "decompose_" ++ key_word key
kind_word (Join outer first second target key) = join_word outer ++ key_word key
kind_word (Split table first second) = codes "split"
kind_word (Merge first second target) = codes "merge"

-- how many rows tables have together
abbrev pub row_count : Tables → ℕ
row_count [] = 0
row_count (t ∷ ts) = length t + row_count ts

abbrev pub shown_operator : Laid → Link AnyView → StoredOperator
shown_operator s e = record {
  number = e.number;
  kind = kind_word e.operator.text;
  on_target = is_in e.number s.layout;
  entries = row_count (aux_of any_meaning s.database.state (stored_way s.layout e));
}

-- the operators by ascending number
abbrev pub shown_operators : Laid → List StoredOperator
shown_operators s = map (shown_operator s) (reverse (forest s.database.graph.edges))
