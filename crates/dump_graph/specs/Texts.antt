-- Operators from their texts.
use Rattle.std.specs.Prelude.{ℕ, List}
use Rattle.bidel_expr.specs.Lexemes.{Lexeme}
use Rattle.bidel_parser.specs.Operators.{Operator}
use Rattle.statements.specs.Views.{OpView}
use Rattle.version_graph.specs.Sets.{Each}
use Rattle.version_graph.specs.declared.parts.Edge.{Edge}
use Rattle.version_graph.specs.declared.parts.Placed.{Placed}
use Rattle.op_any.specs.Operators.{AnyView}
use Rattle.op_any.specs.BuiltOn.{AreBuiltOn, IsBuiltOn}

-- the grammar spells the operator
abbrev pub IsSpelled : OpView → Type 0
IsSpelled o = (ts : List Lexeme) × Operator ts o

-- it spells the text of each of them
abbrev pub AreSpelled : List (Placed AnyView) → Type 0
AreSpelled es = Each (λ (e : Placed AnyView). IsSpelled e.edge.operator.text) es

-- the edge is built from a text of the grammar on a working set, while `next` is the next identifier
pub record IsFromText (next : ℕ) (es : List (Placed AnyView)) (set : ℕ) (e : Edge AnyView) : Type 0 where
  pub spelled : IsSpelled e.operator.text
  pub on : IsBuiltOn next es set e

-- so is each operator, on those before it; the newest comes first
abbrev pub AreFromTexts : ℕ → List (Placed AnyView) → Type 0
AreFromTexts next es = AreSpelled es × AreBuiltOn next es
