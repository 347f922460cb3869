-- Laws of layouts.
use Rattle.std.specs.Prelude.{◌≡◌, ◌↔◌, ◌⊎◌, ℕ, true, List}
use Rattle.version_graph.specs.Sets.{In}
use Rattle.version_graph.specs.Edges.{AreEdges, Drawn, IsGraph, numbers}
use Rattle.par_base.specs.declared.limits.Target.{Target}
use Rattle.version_graph.specs.Evolve.{evolved}
use Rattle.version_graph.specs.Dropped.{dropped}
use Rattle.version_graph.specs.Forest.{Link, forest}
use Rattle.version_graph.specs.declared.parts.Edge.{Edge}
use Rattle.version_graph.specs.declared.parts.Placed.{Placed}
use Rattle.layout_rules.specs.Layouts.{IsStored, IsValid}
use Rattle.layout_rules.specs.Closing.{HasNeeded, IsClosed, IsNeeded, NoneIsShared}
use Rattle.layout_rules.specs.Moves.{IsDown, IsUp, Moves, SameOperators}
use Rattle.layout_rules.specs.Changes.{IsNewCreate, dropped_layout, evolved_layout, layout_after}
use Rattle.layout_rules.specs.Lookups.{is_stored}
use Rattle.layout_rules.specs.Closed.{IsClosing, closing}

-- towards a valid goal each flip from a valid layout leads to a valid one, and so does a whole move
abbrev pub MovesStayValid : Type 0 → Type 0
MovesStayValid O = (es : List (Placed O)) → AreEdges es → (goal : List ℕ) → IsValid (forest es) goal → (n : ℕ) (layout last : List ℕ) → IsValid (forest es) layout → Moves (forest es) goal n layout last → IsValid (forest es) last

-- a layout is the goal, or there is a next operator of the move
abbrev pub FlipsAreFound : Type 0 → Type 0
FlipsAreFound O = (es : List (Placed O)) → AreEdges es → (layout goal : List ℕ) → IsValid (forest es) layout → IsValid (forest es) goal
    → SameOperators layout goal ⊎ ((e : Link O) × (IsDown (forest es) layout goal e ⊎ IsUp (forest es) layout goal e))

-- an evolution leaves a valid layout
abbrev pub EvolutionsStayValid : Type 0 → Type 0
EvolutionsStayValid O = (g : Drawn O) (name : List ℕ) (w : ℕ) (edges : List (Edge O)) → IsGraph (evolved g name w edges) → (layout : List ℕ) → IsValid (forest g.edges) layout
    → IsValid (forest (evolved g name w edges).edges) (evolved_layout g edges layout)

-- a drop leaves a valid layout
abbrev pub DropsStayValid : Type 0 → Type 0
DropsStayValid O = (g : Drawn O) (name : List ℕ) → IsGraph g → (layout : List ℕ) → IsValid (forest g.edges) layout → IsValid (forest (dropped g name).edges) (dropped_layout g name layout)

-- what closing needs has itself all that is asked for: so it is the least such set
abbrev pub NeededIsLeast : Type 0 → Type 0
NeededIsLeast O = (es : List (Placed O)) → AreEdges es → (trees tables : List ℕ) → (least : List ℕ) × HasNeeded (forest es) trees tables least × ((n : ℕ) → In n least → IsNeeded (forest es) trees tables n)

-- where no table is shared, closing a valid layout leaves a valid one
abbrev pub ClosingStaysValid : Type 0 → Type 0
ClosingStaysValid O = (es : List (Placed O)) → AreEdges es → (trees tables layout new : List ℕ) → IsValid (forest es) layout → IsClosed (forest es) trees tables layout new → NoneIsShared (forest es) trees tables → IsValid (forest es) new

-- what closing gives, or its refusal, is as it is told by sets
abbrev pub ClosingIsRight : Type 0 → Type 0
ClosingIsRight O = (g : Drawn O) → AreEdges g.edges → (layout : List ℕ) (named : List Target) → IsClosing g layout named (closing g layout named)

-- the test of a stored table is what is told of one
abbrev pub StoredIsTold : Type 0 → Type 0
StoredIsTold O = (es : List (Placed O)) → AreEdges es → (layout : List ℕ) (t : ℕ) → (is_stored es layout t ≡ true) ↔ IsStored (forest es) layout t

-- from one graph to the next the layout keeps its operators that live, and new CREATE TABLE operators come in
abbrev pub LayoutFollows : Type 0 → Type 0
LayoutFollows O = (layout : List ℕ) (old new : Drawn O) → AreEdges new.edges → (n : ℕ) → In n (layout_after layout old new) ↔ ((In n layout × In n (numbers new.edges)) ⊎ IsNewCreate old new n)

-- after an evolution it is what is told of evolutions
abbrev pub EvolutionsAreFollowed : Type 0 → Type 0
EvolutionsAreFollowed O = (g : Drawn O) → IsGraph g → (layout : List ℕ) → IsValid (forest g.edges) layout → (name : List ℕ) (w : ℕ) (edges : List (Edge O)) → layout_after layout g (evolved g name w edges) ≡ evolved_layout g edges layout

-- after a drop it is what is told of drops
abbrev pub DropsAreFollowed : Type 0 → Type 0
DropsAreFollowed O = (g : Drawn O) → IsGraph g → (layout name : List ℕ) → layout_after layout g (dropped g name) ≡ dropped_layout g name layout
