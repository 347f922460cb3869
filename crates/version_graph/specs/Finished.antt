-- A finished graph: each operator has a named version at or below it.
use Rattle.std.specs.Prelude.{ℕ, Bool, true, ◌&&◌, List, [], ◌∷◌}
use Rattle.version_graph.specs.Sets.{In, Each}
use Rattle.version_graph.specs.Edges.{Drawn, numbers, is_in, version_sets}
use Rattle.version_graph.specs.Forest.{crossed, forest, up}
use Rattle.version_graph.specs.declared.parts.Placed.{Placed}

-- the operators from a working set up to the root
abbrev pub way : {O : Type 0} → List (Placed O) → ℕ → List ℕ
way es w = crossed (up (forest es) w)

-- one of these working sets is at or below the operator
abbrev pub HasBelow : {O : Type 0} → List (Placed O) → List ℕ → ℕ → Type 0
HasBelow es sets n = (w : ℕ) × In w sets × In n (way es w)

abbrev pub IsFinished : {O : Type 0} → Drawn O → Type 0
IsFinished g = Each (HasBelow g.edges (version_sets g.versions)) (numbers g.edges)

-- whether each edge's working set is one of these, or an edge begins there
abbrev pub are_needed : {O : Type 0} → List ℕ → List (Placed O) → Bool
are_needed needed [] = true
are_needed needed (e ∷ es) = is_in e.number needed && are_needed (e.parent ∷ needed) es
