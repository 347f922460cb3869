-- Where the operators of a database come from.
use Rattle.std.specs.Prelude.{List, [], ◌++◌}
use Rattle.statements.specs.Views.{OpView, StatementView, CreateVersion}
use Rattle.version_graph.specs.Sets.{Within}
use Rattle.version_graph.specs.declared.parts.Placed.{Placed}
use Rattle.op_any.specs.Operators.{AnyView}
use Rattle.engine_versions.specs.KeptTexts.{texts_of}

-- the operators that a statement tells: those of a new version
abbrev pub operators_in : StatementView → List OpView
operators_in (CreateVersion name from operators) = operators
operators_in _ = []

-- OPERATORS COME FROM STATEMENTS ALONE: each text that a live operator keeps after a statement stands in it, or a live operator kept it before
abbrev pub TextsCome : StatementView → List (Placed AnyView) → List (Placed AnyView) → Type 0
TextsCome statement old new = Within (texts_of new) (operators_in statement ++ texts_of old)
