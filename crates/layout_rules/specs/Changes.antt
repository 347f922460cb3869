-- What evolutions and drops make of a layout.
use Rattle.std.specs.Prelude.{◌≡◌, ℕ, ◌+◌, ◌<◌, ◌&&◌, cond, nat_lt, Bool, true, false, List, [], ◌∷◌, ◌++◌, filter}
use Rattle.version_graph.specs.Sets.{In}
use Rattle.version_graph.specs.Edges.{Drawn, is_in, numbers}
use Rattle.version_graph.specs.Dropped.{dropped}
use Rattle.version_graph.specs.Forest.{Link, forest}
use Rattle.version_graph.specs.declared.parts.Edge.{Edge}
use Rattle.version_graph.specs.declared.parts.Placed.{Placed}
use Rattle.layout_rules.specs.Layouts.{IsCreate}

abbrev pub is_empty : {X : Type 0} → List X → Bool
is_empty [] = true
is_empty (x ∷ xs) = false

-- the CREATE TABLE operators among further edges, under the next numbers
abbrev pub creates_next : {O : Type 0} → ℕ → List (Edge O) → List ℕ
creates_next operator [] = []
creates_next operator (e ∷ edges) = cond (is_empty e.sources) ((operator + 1) ∷ creates_next (operator + 1) edges) (creates_next (operator + 1) edges)

-- an evolution puts its CREATE TABLE operators into the layout, and no others
abbrev pub evolved_layout : {O : Type 0} → Drawn O → List (Edge O) → List ℕ → List ℕ
evolved_layout g edges layout = layout ++ creates_next g.last_operator edges

-- a drop takes its operators out
abbrev pub dropped_layout : {O : Type 0} → Drawn O → List ℕ → List ℕ → List ℕ
dropped_layout g name layout = filter (λ n. is_in n (numbers (dropped g name).edges)) layout

-- ---- from one graph to the next

-- the CREATE TABLE operators above a number, ascending
abbrev pub creates_above : {O : Type 0} → ℕ → List (Placed O) → List ℕ
creates_above last [] = []
creates_above last (e ∷ es) = creates_above last es ++ cond (nat_lt last e.number && is_empty e.edge.sources) (e.number ∷ []) []

-- whatever a statement makes of the graph: the operators of the layout that live stay in it, and new CREATE TABLE operators come in
abbrev pub layout_after : {O : Type 0} → List ℕ → Drawn O → Drawn O → List ℕ
layout_after layout old new = filter (λ n. is_in n (numbers new.edges)) layout ++ creates_above old.last_operator new.edges

-- a CREATE TABLE operator of the second graph, under a number that the first had not given
abbrev pub IsNewCreate : {O : Type 0} → Drawn O → Drawn O → ℕ → Type 0
IsNewCreate {O} old new n = (e : Link O) × In e (forest new.edges) × (n ≡ e.number) × IsCreate e × (old.last_operator < n)
