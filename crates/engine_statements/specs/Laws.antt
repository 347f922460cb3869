-- Laws of events.
use Rattle.std.specs.Prelude.{◌≡◌, ℕ, ◌-◌, ◌<◌, nat_lt, List, Option, Some, None, Ok, slice_get, if◌then◌else◌}
use Rattle.std.specs.List.{All}
use Rattle.std.specs.Option.{option_and_then, option_map}
use Rattle.par_base.specs.declared.value.Value.{Value}
use Rattle.par_base.specs.declared.value.Value.TheVariants.{Reference}
use Rattle.expr_lang.specs.Terms.{Term}
use Rattle.row_store.specs.Rows.{AreBelow, RiseFrom, row_of}
use Rattle.statements.specs.Views.{AssignmentView, Tree}
use Rattle.statements.specs.declared.statement.TableName.{TableName}
use Rattle.version_graph.specs.Sets.{In}
use Rattle.version_graph.specs.Tables.{table_numbers}
use Rattle.version_graph.specs.Edges.{AreEdges, working}
use Rattle.op_any.specs.Operators.{any_meaning}
use Rattle.ordinary_table.specs.Shown.{meets}
use Rattle.ordinary_table.specs.Written.{SetTerm, chosen_count, numbered, updated_row}
use Rattle.version_model.specs.Sound.{IsSound}
use Rattle.version_model.specs.Writes.{MayWrite}
use Rattle.engine_state.specs.AnyDatabase.{AnyDatabase}
use Rattle.engine_state.specs.declared.reply.Reply.TheVariants.{Inserted, Updated, Deleted}
use Rattle.engine_statements.specs.Found.{known_condition as condition_in}
use Rattle.engine_statements.specs.Statements.{Planned, columns_of, ids_of, known_sets as sets_in, planned_delete, planned_insert, planned_update, rows_of, state_with}

-- of the tables of its version a write changes the written one alone: each version is an ordinary database for its own writes
pub record IsOrdinary (s : AnyDatabase) (p : Planned) : Type 0 where
  pub written : (state_with s p).state.tables p.found.table.number ≡ p.rows
  pub others : (t : ℕ) → In t (table_numbers (working s.graph.edges p.found.set)) → (t ≡ p.found.table.number → ⊥) → (state_with s p).state.tables t ≡ s.state.tables t

-- so is every write that a sound state may take
abbrev pub WritesAreOrdinary : Type 0
WritesAreOrdinary = (s : AnyDatabase) (p : Planned) → AreEdges s.graph.edges → IsSound any_meaning s.graph.edges s.state
    → MayWrite s.graph.edges s.state p.found.set p.found.table.number p.rows p.next → IsOrdinary s p

-- ---- what answered writes make of their table, by identifier

-- a reference is to an identifier that was drawn
abbrev pub IsDrawn : ℕ → Value → Type 0
IsDrawn next (Reference id) = (0 < id) × (id < next)
IsDrawn next _ = Unit {0}

-- an INSERT leaves each row that stood there, and puts the new ones in their order under the next identifiers
pub record InsertsRows (s : AnyDatabase) (new : List (List Value)) (p : Planned) : Type 0 where
  pub drawn : All (All (IsDrawn s.state.next)) new
  pub rows : (id : ℕ) → row_of p.rows id ≡ (if nat_lt id s.state.next then row_of (rows_of s p.found) id else slice_get new (id - s.state.next))
  pub ids : p.reply ≡ Inserted (ids_of (numbered s.state.next new))

abbrev pub InsertsByIdentifier : Type 0
InsertsByIdentifier =
    (s : AnyDatabase) (name : TableName) (rows : List (List Value)) (p : Planned) → planned_insert s name rows ≡ Ok p → AreBelow (rows_of s p.found) s.state.next → InsertsRows s rows p

-- an UPDATE sets the rows that meet its condition, and leaves the others; it answers how many they are
pub record UpdatesChosen (s : AnyDatabase) (assignments : List AssignmentView) (filter : Option Tree) (p : Planned) : Type 0 where
  pub sets : List SetTerm
  pub condition : Option (Term ℕ)
  pub known_sets : sets_in (columns_of p.found) assignments ≡ Ok sets
  pub known_condition : condition_in (columns_of p.found) filter ≡ Ok condition
  pub rows : (id : ℕ) → row_of p.rows id ≡ option_map (λ row. updated_row sets condition (id, row)) (row_of (rows_of s p.found) id)
  pub count : p.reply ≡ Updated (chosen_count (rows_of s p.found) condition)

abbrev pub UpdatesByIdentifier : Type 0
UpdatesByIdentifier =
    (s : AnyDatabase) (name : TableName) (assignments : List AssignmentView) (filter : Option Tree) (p : Planned) → planned_update s name assignments filter ≡ Ok p → UpdatesChosen s assignments filter p

-- a DELETE takes the rows that meet its condition, and leaves the others; it answers how many they are
pub record DeletesChosen (s : AnyDatabase) (filter : Option Tree) (p : Planned) : Type 0 where
  pub condition : Option (Term ℕ)
  pub known_condition : condition_in (columns_of p.found) filter ≡ Ok condition
  pub rows : (id : ℕ) → row_of p.rows id ≡ option_and_then (λ row. if meets condition (id, row) then None else Some row) (row_of (rows_of s p.found) id)
  pub count : p.reply ≡ Deleted (chosen_count (rows_of s p.found) condition)

abbrev pub DeletesByIdentifier : Type 0
DeletesByIdentifier =
    (s : AnyDatabase) (name : TableName) (filter : Option Tree) (p : Planned) → planned_delete s name filter ≡ Ok p → RiseFrom 0 (rows_of s p.found) → DeletesChosen s filter p
