-- Edges of operators that were just built, between one table or two on either side.
use Rattle.std.specs.Prelude.{ℕ, List, [], ◌∷◌}
use Rattle.version_graph.specs.declared.parts.Heading.{Heading}
use Rattle.version_graph.specs.declared.parts.Edge.{Edge}
use Rattle.op_kinds.specs.Operators.{Built}
use Rattle.op_kinds.specs.Views.{built_view}
use Rattle.op_kinds.specs.declared.built_op.BuiltOp.{BuiltOp}

-- an edge of a built operator
abbrev pub edge_view : Edge BuiltOp → Edge Built
edge_view e = record { operator = built_view e.operator; sources = e.sources; targets = e.targets }

-- from one table to one table
abbrev pub one_to_one : Built → List ℕ → List ℕ → List (List ℕ) → Edge Built
one_to_one operator source target columns = record {
  operator = operator;
  sources = source ∷ [];
  targets = record { name = target; columns = columns } ∷ [];
}

-- from one table to two with the same columns
abbrev pub one_to_two : Built → List ℕ → List ℕ → List ℕ → List (List ℕ) → Edge Built
one_to_two operator source first second columns = record {
  operator = operator;
  sources = source ∷ [];
  targets = record { name = first; columns = columns } ∷ record { name = second; columns = columns } ∷ [];
}

-- from two tables to one
abbrev pub two_to_one : Built → List ℕ → List ℕ → List ℕ → List (List ℕ) → Edge Built
two_to_one operator first second target columns = record {
  operator = operator;
  sources = first ∷ second ∷ [];
  targets = record { name = target; columns = columns } ∷ [];
}

-- from one table to two others
abbrev pub one_to_both : Built → List ℕ → Heading → Heading → Edge Built
one_to_both operator source first second = record { operator = operator; sources = source ∷ []; targets = first ∷ second ∷ [] }
