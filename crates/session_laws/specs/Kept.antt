-- Statements leave states as a database may have them.
use Rattle.std.specs.Prelude.{◌≤◌, ℕ}
use Rattle.expr_lang.specs.Operations.{text_limit}
use Rattle.statements.specs.Views.{StatementView}
use Rattle.statements.specs.Texts.{TextsWithin}
use Rattle.version_graph.specs.Sets.{Each, In}
use Rattle.version_graph.specs.Tables.{table_numbers}
use Rattle.version_graph.specs.Edges.{AreEdges, made, numbers, version_sets}
use Rattle.op_any.specs.Operators.{AnyView, any_meaning}
use Rattle.version_model.specs.Sound.{IsSound}
use Rattle.db_state.specs.Fields.{IsDatabase}
use Rattle.db_state.specs.declared.parts.Parts.{Parts}
use Rattle.engine_state.specs.AnyDatabase.{AnyDatabase}
use Rattle.engine_sessions.specs.EngineCoreKept.{state_of}
use Rattle.engine_sessions.specs.Act.{act}
use Rattle.engine_sessions.specs.Standing.{Standing, begun, empty_standing}
use Rattle.session_laws.specs.Beside.{next_state}

-- each edge follows those before it, no number is above the last ones, each version has the tables of an operator, and every operator
-- relates its two sides
pub record IsKept (d : AnyDatabase) : Type 0 where
  pub edges : AreEdges d.graph.edges
  pub operators : Each (λ n. n ≤ d.graph.last_operator) (numbers d.graph.edges)
  pub tables : Each (λ t. t ≤ d.graph.last_table) (table_numbers (made d.graph.edges))
  pub named : Each (λ n. In n (numbers d.graph.edges)) (version_sets d.graph.versions)
  pub sound : IsSound any_meaning d.graph.edges d.state

-- the database without versions is such a one, and so is every database that is kept or was loaded
abbrev pub EmptyIsKept : Type 0
EmptyIsKept = (limit : ℕ) → IsKept (empty_standing limit).laid.database

abbrev pub DatabasesAreKept : Type 0
DatabasesAreKept = (k : Parts AnyView) → IsDatabase any_meaning k → IsKept (begun (state_of k)).laid.database

-- each statement leaves such a one, be it answered or refused; no text of it is too long, as none of a script is
abbrev pub StatementsKeep : Type 0
StatementsKeep = (s : Standing) (statement : StatementView) → TextsWithin text_limit statement → IsKept s.laid.database → IsKept (next_state s (act s statement)).laid.database
