-- What the calls of this crate suppose, and what they ensure of their results.
use Rattle.std.specs.Prelude.{◌≡◌, ℕ, List, [], length, Option, Some, option_map, unwrap_or}
use Rattle.std.specs.List.{All}
use Rattle.par_base.specs.declared.value.Value.{Value}
use Rattle.expr_lang.specs.declared.tree.Expr.{Expr}
use Rattle.expr_lang.specs.Terms.{Term, expr_term}
use Rattle.row_store.specs.Rows.{Rows}
use Rattle.row_store.specs.Changes.{AreOld}
use Rattle.row_changes.specs.Changed.{changed}
use Rattle.statements.specs.Views.{AssignmentView}
use Rattle.version_graph.specs.Sets.{In}
use Rattle.version_graph.specs.Tables.{TableVersion, table_numbers}
use Rattle.version_graph.specs.Edges.{heading_of, made, numbers, working}
use Rattle.version_graph.specs.declared.parts.Heading.{Heading}
use Rattle.version_graph.specs.declared.parts.Placed.{Placed}
use Rattle.op_any.specs.Operators.{AnyView, any_meaning}
use Rattle.op_any.specs.Texts.{ValueFits, TermFits}
use Rattle.ordinary_table.specs.Laws.{IsTable}
use Rattle.db_state.specs.Fields.{state_for}
use Rattle.db_state.specs.declared.parts.Parts.{Parts}
use Rattle.version_model.specs.Writes.{MayWrite}
use Rattle.kept_keys.specs.Kept.{AreKeysOf}
use Rattle.engine_statements.specs.Found.{Found}
use Rattle.engine_statements.specs.Statements.{Planned}
use Rattle.engine_statements.specs.declared.found.FoundTable.{FoundTable}
use Rattle.engine_statements.specs.declared.read.ReadTable.{ReadTable}
use Rattle.engine_statements.specs.declared.reader.Reader.{Reader}
use Rattle.engine_statements.specs.declared.read.ReadTable.TheVariants.{Stored, Made}
use Rattle.engine_statements.specs.declared.write_plan.WritePlan.{WritePlan}

-- ---- tables

-- what was found: a working set, and its table with the heading
abbrev pub found_view : FoundTable → Found
found_view f = record { set = f.set; table = record { number = f.number; heading = f.heading.now } }

-- a table of this working set
abbrev pub table_of : ℕ → TableVersion → Found
table_of set t = record { set = set; table = t }

-- the rows of a table
abbrev pub rows_in : Parts AnyView → ℕ → Rows
rows_in k t = (state_for any_meaning k).tables t

-- a live table of a live working set, with its heading, as it may stand
pub record IsTableOf (k : Parts AnyView) (f : FoundTable) : Type 0 where
  pub lives : In f.set (numbers k.graph.edges)
  pub held : In f.number (table_numbers (working k.graph.edges f.set))
  pub made : In f.number (table_numbers (made k.graph.edges))
  pub heading : heading_of k.graph.edges f.number ≡ Some f.heading.now
  pub stands : IsTable (length f.heading.now.columns) k.ids.next (rows_in k f.number)

-- the rows of a table that was read
abbrev pub rows_read : ReadTable → Rows
rows_read (Stored table) = table.now.rows
rows_read (Made table) = table.rows

-- the keys of a reader are those of its tables
abbrev pub HasKeys : Reader → Type 0
HasKeys reader = AreKeysOf (state_for any_meaning reader.database.now).tables reader.keys.now

-- ---- expressions

-- a condition, where there is one
abbrev pub condition_term : Option Expr → Option (Term ℕ)
condition_term condition = option_map expr_term condition

-- ---- texts

-- no text of a row is too long
abbrev pub RowFits : List Value → Type 0
RowFits row = All ValueFits row

-- no text literal of a SET is too long
abbrev pub AssignmentFits : AssignmentView → Type 0
AssignmentFits a = TermFits a.value

-- ---- writes

-- the heading of a live table
abbrev pub heading_at : List (Placed AnyView) → ℕ → Heading
heading_at es t = unwrap_or (heading_of es t) (record { name = []; columns = [] })

-- the rows that the table of a write is to have
abbrev pub rows_after : Parts AnyView → WritePlan → Rows
rows_after k w = changed (rows_in k w.table) w.changes

-- what a statement makes, with the heading and the rows that its table has in this database
abbrev pub planned_view : Parts AnyView → WritePlan → Planned
planned_view k w = record {
  found = record { set = w.set; table = record { number = w.table; heading = heading_at k.graph.edges w.table } };
  rows = rows_after k w;
  next = w.next;
  reply = w.reply;
}

-- a database takes the write
pub record TakesWrite (k : Parts AnyView) (w : WritePlan) : Type 0 where
  pub lives : In w.set (numbers k.graph.edges)
  pub may : MayWrite k.graph.edges (state_for any_meaning k) w.set w.table (rows_after k w) w.next
  -- each old row is there
  pub old : AreOld (rows_in k w.table) w.changes
