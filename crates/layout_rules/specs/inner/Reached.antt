-- Tables reached from given ones, in two passes: up to sources, and then down to targets.
use Rattle.std.specs.Prelude.{ℕ, Bool, cond, not, ◌&&◌, ◌||◌, if◌then◌else◌, List, [], ◌∷◌, ◌++◌, Option, Some, None}
use Rattle.version_graph.specs.Edges.{is_in}
use Rattle.version_graph.specs.Forest.{Link}
use Rattle.version_graph.specs.declared.parts.Placed.{Placed}
use Rattle.layout_rules.specs.Passes.{meet}
use Rattle.layout_rules.specs.Lookups.{sources_or_none}

-- the newest operator first: where one outside the layout made a reached table, its sources are reached
abbrev pub up_from : {O : Type 0} → List ℕ → List (Link O) → List ℕ → List ℕ
up_from layout [] ts = ts
up_from layout (e ∷ es) ts = cond (not (is_in e.number layout) && meet e.targets ts) (up_from layout es (ts ++ e.sources)) (up_from layout es ts)

-- the oldest operator first: where one of the layout takes a reached table, its targets are reached
abbrev pub down_from : {O : Type 0} → List ℕ → List (Link O) → List ℕ → List ℕ
down_from layout [] ts = ts
down_from layout (e ∷ es) ts = cond (is_in e.number layout && meet e.sources (down_from layout es ts)) (down_from layout es ts ++ e.targets) (down_from layout es ts)

-- ---- the same, by edges

abbrev pub goes_up : {O : Type 0} → List ℕ → List ℕ → Placed O → Bool
goes_up layout ts e = not (is_in e.number layout) && meet e.tables ts

abbrev pub goes_down : {O : Type 0} → List (Placed O) → List ℕ → List ℕ → Placed O → Bool
goes_down es layout ts e = is_in e.number layout && meet (sources_or_none es e.number) ts

abbrev pub up_with : {O : Type 0} → List (Placed O) → List ℕ → List ℕ → Option (Placed O) → List ℕ
up_with es layout ts None = ts
up_with es layout ts (Some e) = if goes_up layout ts e then ts ++ sources_or_none es e.number else ts

abbrev pub down_with : {O : Type 0} → List (Placed O) → List ℕ → List ℕ → Option (Placed O) → List ℕ
down_with es layout ts None = ts
down_with es layout ts (Some e) = if goes_down es layout ts e then ts ++ e.tables else ts

-- the number of an edge over which a reached table is read
abbrev pub way_with : {O : Type 0} → List (Placed O) → List ℕ → List ℕ → Option (Placed O) → List ℕ
way_with es layout ts None = []
way_with es layout ts (Some e) = if goes_up layout ts e || goes_down es layout ts e then e.number ∷ [] else []

-- those of ascending edges
abbrev pub way_along : {O : Type 0} → List (Placed O) → List ℕ → List ℕ → List (Placed O) → List ℕ
way_along es layout ts [] = []
way_along es layout ts (e ∷ more) = way_with es layout ts (Some e) ++ way_along es layout ts more
