-- An evolution: each new operator's targets come from its sources, with an empty old pair.
use Rattle.std.specs.Prelude.{ℕ, ◌+◌, ◌≤◌, false, List, [], ◌∷◌, length, map}
use Rattle.version_graph.specs.Forest.{Link, crossing, link}
use Rattle.version_graph.specs.Evolve.{placed_next}
use Rattle.version_graph.specs.declared.parts.Edge.{Edge}
use Rattle.version_graph.specs.declared.parts.Placed.{Placed}
use Rattle.op_law.specs.Meaning.{Meaning}
use Rattle.version_model.specs.States.{State, empty_at, headings}
use Rattle.version_model.specs.Steps.{after}

-- the state with one operator more
abbrev pub with_link : {O : Type 0} → (O → Meaning) → State → Link O → State
with_link meaning s e = after meaning (empty_at s.next) s (crossing false e)

-- the state with further operators, each on the working set that the one before it leaves
abbrev pub grown_state : {O : Type 0} → (O → Meaning) → List (Placed O) → ℕ → ℕ → ℕ → List (Edge O) → State → State
grown_state meaning es parent operator table [] s = s
grown_state meaning es parent operator table (e ∷ edges) s =
    let new = placed_next parent operator table e in
    grown_state meaning (new ∷ es) (operator + 1) (operator + 1) (table + length e.targets) edges (with_link meaning s (link es new))

-- each operator is built for its sources and targets, and its expressions are closed
abbrev pub AreBuilt : {O : Type 0} → (O → Meaning) → List (Placed O) → ℕ → ℕ → ℕ → List (Edge O) → ℕ → Type 0
AreBuilt meaning es parent operator table [] next = Unit {0}
AreBuilt meaning es parent operator table (e ∷ edges) next =
    let new = placed_next parent operator table e in
    (meaning e.operator).Fits (map (headings (new ∷ es)) (link es new).sources) (map (headings (new ∷ es)) (link es new).targets) × (meaning e.operator).Closed next × AreBuilt meaning (new ∷ es) (operator + 1) (operator + 1) (table + length e.targets) edges next

-- an edge has at most two tables on either side
abbrev pub HasFewTables : {O : Type 0} → Edge O → Type 0
HasFewTables e = (length e.sources ≤ 2) × (length e.targets ≤ 2)
