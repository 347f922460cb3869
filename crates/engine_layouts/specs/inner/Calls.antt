-- What is shown of one stored table and of one operator, from what is kept.
use Rattle.std.specs.Prelude.{ℕ, List, length}
use Rattle.std.specs.Option.{IsSome}
use Rattle.row_store.specs.States.{TableState}
use Rattle.version_graph.specs.Sets.{Each}
use Rattle.version_graph.specs.Edges.{heading_of, is_in}
use Rattle.version_graph.specs.declared.parts.Placed.{Placed}
use Rattle.op_law.specs.declared.side.Aux.{Aux}
use Rattle.engine_state.specs.Operators.{AnyView}
use Rattle.version_model.specs.declared.numbered.Numbered.{Numbered}
use Rattle.version_model.specs.Kept.{auxes_at}
use Rattle.engine_state.specs.declared.reply.StoredOperator.{StoredOperator}
use Rattle.engine_state.specs.declared.reply.StoredTable.{StoredTable}
use Rattle.engine_layouts.specs.Shown.{kind_word, name_at, row_count}

-- each of these tables lives
abbrev pub HasHeadings : List (Placed AnyView) → List (Numbered TableState) → Type 0
HasHeadings es stored = Each (λ (i : Numbered TableState). IsSome (heading_of es i.number)) stored

abbrev pub shown_item : List (Placed AnyView) → Numbered TableState → StoredTable
shown_item es i = record { number = i.number; name = name_at es i.number; rows = length i.value.rows }

abbrev pub shown_edge : List ℕ → List (Numbered Aux) → Placed AnyView → StoredOperator
shown_edge layout auxes e = record { number = e.number; kind = kind_word e.edge.operator.text; on_target = is_in e.number layout; entries = row_count (auxes_at auxes e.number) }
