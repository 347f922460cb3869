-- The same edges over numbers of tables alone, and the walk of a write.
use Rattle.std.specs.Prelude.{ℕ, Bool, true, false, cond, ◌==◌, not, List, [], ◌∷◌, ◌++◌, filter, map}
use Rattle.version_graph.specs.Tables.{table_numbers}
use Rattle.version_graph.specs.Edges.{sources_of, is_in}
use Rattle.version_graph.specs.declared.parts.Placed.{Placed}
use Rattle.version_graph.specs.declared.parts.Step.{Step}

-- an operator over its parent's working set; 0 is the empty working set
pub record Link (O : Type 0) : Type 0 where
  pub number : ℕ
  pub parent : ℕ
  pub operator : O
  pub sources : List ℕ
  pub targets : List ℕ

abbrev pub link : {O : Type 0} → List (Placed O) → Placed O → Link O
link es e = record { number = e.number; parent = e.parent; operator = e.edge.operator; sources = table_numbers (sources_of es e); targets = e.tables }

-- the edges, the newest first
abbrev pub forest : {O : Type 0} → List (Placed O) → List (Link O)
forest [] = []
forest (e ∷ es) = link es e ∷ forest es

-- a way over an edge, from its near tables to its far ones: forward from its sources, backward from its targets
pub record Crossing (O : Type 0) : Type 0 where
  pub operator : O
  pub backward : Bool
  pub number : ℕ
  pub near : List ℕ
  pub far : List ℕ

abbrev pub crossing : {O : Type 0} → Bool → Link O → Crossing O
crossing back e = record { operator = e.operator; backward = back; number = e.number; near = cond back e.targets e.sources; far = cond back e.sources e.targets }

-- the step that tells of it
abbrev pub step_told : {O : Type 0} → Crossing O → Step
step_told p = record { operator = p.number; backward = p.backward }

-- ---- working sets, over numbers

-- the numbers of the first list that the second lacks, in their order
abbrev pub minus : List ℕ → List ℕ → List ℕ
minus xs ys = filter (λ x. not (is_in x ys)) xs

abbrev pub tables_in : {O : Type 0} → List (Link O) → ℕ → List ℕ
tables_in [] w = []
tables_in (e ∷ es) w = cond (w == e.number) (minus (tables_in es e.parent) e.sources ++ e.targets) (tables_in es w)

-- ---- the walk

-- the edges from w up to its root, each backward
abbrev pub up : {O : Type 0} → List (Link O) → ℕ → List (Crossing O)
up [] w = []
up (e ∷ es) w = cond (w == e.number) (crossing true e ∷ up es e.parent) (up es w)

-- the operators that crossings go over
abbrev pub crossed : {O : Type 0} → List (Crossing O) → List ℕ
crossed {O} ps = map (λ (p : Crossing O). p.number) ps

-- the tree of a working set: the number of its oldest edge
abbrev pub tree : {O : Type 0} → List (Link O) → ℕ → ℕ
tree [] w = w
tree (e ∷ es) w = cond (w == e.number) (cond (e.parent == 0) e.number (tree es e.parent)) (tree es w)

-- the edges that are not on the way from w to its root and pass the test, ascending, each forward
abbrev pub rest : {O : Type 0} → (ℕ → Bool) → List (Link O) → ℕ → List (Crossing O)
rest test [] w = []
rest test (e ∷ es) w = cond (w == e.number) (rest test es e.parent) (rest test es w ++ cond (test e.number) (crossing false e ∷ []) [])

-- up to the root of w, each edge backward, and then all other edges of that tree by ascending number, each forward
abbrev pub walk : {O : Type 0} → List (Link O) → ℕ → List (Crossing O)
walk es w = up es w ++ rest (λ n. tree es n == tree es w) es w
