-- Which operators' data go to their other side.
use Rattle.std.specs.Prelude.{ℕ, Bool, true, cond, not, List, [], ◌∷◌, filter, length}
use Rattle.version_graph.specs.Edges.{is_in}
use Rattle.version_graph.specs.declared.parts.Placed.{Placed}
use Rattle.layout_rules.specs.Changes.{is_empty}
use Rattle.layout_rules.specs.Lookups.{numbers_up, sources_or_none}

-- exactly one of both layouts has the operator
abbrev pub changes_side : List ℕ → List ℕ → ℕ → Bool
changes_side layout goal n = cond (is_in n layout) (not (is_in n goal)) (is_in n goal)

-- the live operators of which exactly one of both lists has the number, ascending
abbrev pub changing : {O : Type 0} → List (Placed O) → List ℕ → List ℕ → List ℕ
changing es layout goal = filter (changes_side layout goal) (numbers_up es)

-- how many operators' data go to their other side
abbrev pub flip_count : {O : Type 0} → List (Placed O) → List ℕ → List ℕ → ℕ
flip_count es layout goal = length (changing es layout goal)

-- the layout with this operator on its other side, ascending
abbrev pub flipped_layout : {O : Type 0} → List (Placed O) → ℕ → List ℕ → List ℕ
flipped_layout es n layout = changing es layout (n ∷ [])

-- an operator stays on its side where others are to go: it isn't one of them, or is a CREATE TABLE
abbrev pub keeps_side : {O : Type 0} → List (Placed O) → List ℕ → ℕ → Bool
keeps_side es gone n = cond (is_in n gone) (is_empty (sources_or_none es n)) true

-- the layout with the operators that are to go on their source side, but with the CREATE TABLE operators among them
abbrev pub leaving_layout : {O : Type 0} → List (Placed O) → List ℕ → List ℕ → List ℕ
leaving_layout es gone layout = filter (keeps_side es gone) layout
