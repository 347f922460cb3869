-- The operators of a walk.
use Rattle.std.specs.Prelude.{ℕ, ◌==◌, Bool, List}
use Rattle.std.specs.List.{list_any}
use Rattle.version_graph.specs.declared.parts.Step.{Step}

-- whether one of the steps goes over the operator
abbrev pub is_walked : List Step → ℕ → Bool
is_walked steps n = list_any (λ (s : Step). n == s.operator) steps
