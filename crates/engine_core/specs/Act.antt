-- One event: the reply or refusal of a statement, and the next state.
use Rattle.std.specs.Prelude.{◌≡◌, ℕ, ◌==◌, Bool, true, false, not, length, Ok, Err, if◌then◌else◌}
use Rattle.par_base.specs.declared.refusal.Refusal.TheVariants.{NotBuilt}
use Rattle.statements.specs.Views.{StatementView, CreateVersion, DropVersion, Insert, Update, Delete, Select, Materialize, ShowLayout}
use Rattle.version_graph.specs.Sets.{In}
use Rattle.version_graph.specs.Tables.{table_numbers}
use Rattle.version_graph.specs.Edges.{working}
use Rattle.layout_rules.specs.Changes.{layout_after}
use Rattle.par_base.specs.Checked.{Checked, ◌then◌}
use Rattle.engine_state.specs.AnyDatabase.{AnyDatabase}
use Rattle.engine_state.specs.declared.reply.Reply.{Reply}
use Rattle.engine_state.specs.declared.reply.Reply.TheVariants.{Done, Moved, Layout}
use Rattle.engine_statements.specs.Statements.{Planned, planned_insert, planned_update, planned_delete, acted_select, wrote}
use Rattle.engine_versions.specs.Evolve.{created, dropped_version}
use Rattle.engine_layouts.specs.Laid.{Laid, materialized}
use Rattle.engine_layouts.specs.Shown.{shown_operators, shown_tables}

-- the statements that are carried out here: a new version of a script has at least one operator, and moves in steps are left to the crate above
abbrev pub is_built : StatementView → Bool
is_built (CreateVersion name from operators) = not (length operators == 0)
is_built (DropVersion name) = true
is_built (Insert t rows) = true
is_built (Update t assignments filter) = true
is_built (Delete t filter) = true
is_built (Select t items filter csv) = not csv
is_built (Materialize named in_steps) = not in_steps
is_built ShowLayout = true
is_built _ = false

-- ---- THE MODEL WITHOUT LAYOUT: what a statement on the data answers and leaves

-- what an INSERT, UPDATE or DELETE makes of its version's table; no other statement writes rows
abbrev pub planned_write : AnyDatabase → StatementView → Checked Planned
planned_write s (Insert t rows) = planned_insert s t rows
planned_write s (Update t assignments filter) = planned_update s t assignments filter
planned_write s (Delete t filter) = planned_delete s t filter
planned_write s _ = Err NotBuilt

-- a statement on the data
abbrev pub acted_data : AnyDatabase → StatementView → Checked (Reply × AnyDatabase)
acted_data s (CreateVersion name from operators) = created s name from operators then λ next. Ok (Done, next)
acted_data s (DropVersion name) = dropped_version s name then λ next. Ok (Done, next)
acted_data s (Select t items filter csv) = acted_select s t items filter
acted_data s statement = planned_write s statement then λ p. wrote s p

-- ---- with the layout beside it

-- the layout follows the graph, and tells nothing to the model
abbrev pub with_data : Laid → Reply × AnyDatabase → Reply × Laid
with_data s answer = (answer.0, record { database = answer.1; layout = layout_after s.layout s.database.graph answer.1.graph })

-- a statement that is carried out: MATERIALIZE changes the layout alone, SHOW LAYOUT nothing, and every other one the data, whatever the layout
abbrev pub acted : Laid → StatementView → Checked (Reply × Laid)
acted s (Materialize named in_steps) = materialized s named then λ m. Ok (Moved m.0, m.1)
acted s ShowLayout = Ok (Layout (shown_tables s) (shown_operators s), s)
acted s statement = acted_data s.database statement then λ answer. Ok (with_data s answer)

-- whether its answer tells of the layout
abbrev pub tells_layout : StatementView → Bool
tells_layout (Materialize named in_steps) = true
tells_layout ShowLayout = true
tells_layout _ = false

-- one event; every other form is refused before all other checks of its statement
abbrev pub act : Laid → StatementView → Checked (Reply × Laid)
act s statement = if is_built statement then acted s statement else Err NotBuilt

-- EACH VERSION IS AN ORDINARY DATABASE FOR ITS OWN WRITES: the written table has the rows that the statement makes, and no other table of its version changes
pub record IsOrdinary (old : AnyDatabase) (p : Planned) (new : AnyDatabase) : Type 0 where
  pub written : new.state.tables p.found.table.number ≡ p.rows
  pub others : (t : ℕ) → In t (table_numbers (working old.graph.edges p.found.set)) → (t ≡ p.found.table.number → ⊥) → new.state.tables t ≡ old.state.tables t
  pub versions : new.graph ≡ old.graph
