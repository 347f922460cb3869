-- The texts that operators keep.
use Rattle.std.specs.Prelude.{List, [], ◌∷◌}
use Rattle.statements.specs.Views.{OpView}
use Rattle.version_graph.specs.declared.parts.Placed.{Placed}
use Rattle.op_any.specs.Operators.{AnyView}

-- the newest operator's comes first
abbrev pub texts_of : List (Placed AnyView) → List OpView
texts_of [] = []
texts_of (e ∷ es) = e.edge.operator.text ∷ texts_of es
