-- A move in steps: which operators' data are still to go to their other side.
use Rattle.std.specs.Prelude.{◌==◌, ℕ, not, List, [], ◌∷◌, filter, Option, Some, None, Ok}
use Rattle.std.specs.List.{find}
use mathlib.Core.List.{reverse}
use Rattle.par_base.specs.Checked.{Checked, ◌then◌}
use Rattle.par_base.specs.declared.limits.Target.{Target}
use Rattle.version_graph.specs.Sets.{In}
use Rattle.version_graph.specs.Edges.{Drawn, Rises, is_in, numbers}
use Rattle.version_graph.specs.Forest.{forest}
use Rattle.version_graph.specs.declared.parts.Placed.{Placed}
use Rattle.layout_rules.specs.Closed.{closing}
use Rattle.layout_rules.specs.Layouts.{IsValid}
use Rattle.migration.specs.Sides.{changing}

-- those that change sides for the layout that stores the named tables
abbrev pub pending_for : {O : Type 0} → Drawn O → List ℕ → List Target → Checked (List ℕ)
pending_for g layout named = closing g layout named then λ goal. Ok (changing g.edges layout goal)

-- the layout to which pending operators lead: each of them has its other side there
abbrev pub goal_of : {O : Type 0} → List (Placed O) → List ℕ → List ℕ → List ℕ
goal_of es layout pending = changing es layout pending

-- a found operator, or else the oldest one
abbrev pub or_oldest : Option ℕ → List ℕ → Option ℕ
or_oldest (Some n) pending = Some n
or_oldest None [] = None
or_oldest None (n ∷ pending) = Some n

-- THE NEXT FLIP: the newest that is stored on its target side, and once there is none the oldest
abbrev pub next_flip : List ℕ → List ℕ → Option ℕ
next_flip layout pending = or_oldest (find (λ n. is_in n layout) (reverse pending)) pending

-- the others, once an operator has changed sides
abbrev pub pending_without : ℕ → List ℕ → List ℕ
pending_without n pending = filter (λ m. not (m == n)) pending

-- those that live
abbrev pub pending_in : {O : Type 0} → List (Placed O) → List ℕ → List ℕ
pending_in es pending = filter (λ n. is_in n (numbers es)) pending

-- pending operators live, ascend, and lead to a valid layout
pub record IsPending {O : Type 0} (es : List (Placed O)) (layout pending : List ℕ) : Type 0 where
  pub ascending : Rises 0 pending
  pub live : (n : ℕ) → In n pending → In n (numbers es)
  pub goal : IsValid (forest es) (goal_of es layout pending)
