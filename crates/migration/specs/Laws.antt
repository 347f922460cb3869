-- Laws of moves.
use Rattle.std.specs.Prelude.{◌≡◌, ℕ, zero, suc, List, Some, None}
use Rattle.version_graph.specs.Edges.{AreEdges, Rises}
use Rattle.version_graph.specs.Forest.{forest}
use Rattle.version_graph.specs.declared.parts.Placed.{Placed}
use Rattle.layout_rules.specs.Layouts.{IsValid}
use Rattle.layout_rules.specs.Moves.{Flips, Moves, SameOperators}
use Rattle.migration.specs.Sides.{changing, flip_count, flipped_layout}
use Rattle.migration.specs.Pending.{IsPending, goal_of, next_flip, pending_without}

-- a move that goes operator by operator, and ends at its goal, has as many flips as operators change sides
abbrev pub MovesAreCounted : Type 0 → Type 0
MovesAreCounted O = (es : List (Placed O)) → AreEdges es → (goal : List ℕ) (n : ℕ) (layout last : List ℕ)
    → Moves (forest es) goal n layout last → SameOperators last goal → n ≡ flip_count es layout goal

-- ---- moves in steps

-- the operator's flip is the next one of the move to the goal: it leaves a valid layout, and the others lead to the same goal
pub record IsNextFlip {O : Type 0} (es : List (Placed O)) (layout pending : List ℕ) (n : ℕ) : Type 0 where
  pub flips : Flips (forest es) (goal_of es layout pending) layout (flipped_layout es n layout)
  pub valid : IsValid (forest es) (flipped_layout es n layout)
  pub left : IsPending es (flipped_layout es n layout) (pending_without n pending)
  pub goal : goal_of es (flipped_layout es n layout) (pending_without n pending) ≡ goal_of es layout pending

-- EACH STEP IS THE NEXT FLIP OF THE MOVE
abbrev pub StepsAreFlips : Type 0 → Type 0
StepsAreFlips O = (es : List (Placed O)) → AreEdges es → (layout pending : List ℕ) → IsValid (forest es) layout → IsPending es layout pending
    → (n : ℕ) → next_flip layout pending ≡ Some n → IsNextFlip es layout pending n

-- one step after the other, until nothing is pending
abbrev pub StepsTo : {O : Type 0} → List (Placed O) → ℕ → List ℕ → List ℕ → List ℕ → Type 0
StepsTo es zero layout pending last = (next_flip layout pending ≡ None) × (layout ≡ last)
StepsTo es (suc count) layout pending last = (n : ℕ) × (next_flip layout pending ≡ Some n) × StepsTo es count (flipped_layout es n layout) (pending_without n pending) last

-- THEY END IN THE GOAL: in the layout to which one move would have led at once, after as many flips
abbrev pub StepsArrive : Type 0 → Type 0
StepsArrive O = (es : List (Placed O)) → AreEdges es → (layout goal : List ℕ) → IsValid (forest es) layout → Rises 0 layout → IsValid (forest es) goal → Rises 0 goal
    → (count : ℕ) (last : List ℕ) → StepsTo es count layout (changing es layout goal) last → (last ≡ goal) × (count ≡ flip_count es layout goal)
