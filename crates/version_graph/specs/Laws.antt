-- Laws of walks and of drops.
use Rattle.std.specs.Prelude.{◌≡◌, ◌↔◌, ℕ, not, List, [], ◌∷◌, filter}
use Rattle.version_graph.specs.Sets.{In, Apart, Distinct, Each}
use Rattle.version_graph.specs.Tables.{table_numbers}
use Rattle.version_graph.specs.Edges.{AreEdges, Drawn, IsGraph, Rises, numbers, version_sets, working}
use Rattle.version_graph.specs.Dropped.{doomed, dropped, other_versions}
use Rattle.version_graph.specs.Finished.{HasBelow, way}
use Rattle.version_graph.specs.Forest.{Crossing, crossed, forest, tree, walk}
use Rattle.version_graph.specs.declared.parts.Placed.{Placed}

-- the crossing q changes nothing of p, and is another edge's
pub record Leaves {O : Type 0} (p q : Crossing O) : Type 0 where
  pub near : Apart p.near q.far
  pub far : Apart p.far q.far
  pub memory : p.number ≡ q.number → ⊥

-- no crossing changes a table of one that stands before it, nor its own near side
abbrev pub Ordered : {O : Type 0} → List (Crossing O) → Type 0
Ordered [] = Unit {0}
Ordered (p ∷ ps) = Distinct p.far × Apart p.near p.far × Each (Leaves p) ps × Ordered ps

-- each walk is in order
abbrev pub WalkInOrder : Type 0 → Type 0
WalkInOrder O = (es : List (Placed O)) → AreEdges es → (w : ℕ) → Ordered (walk (forest es) w)

-- a walk changes no table of the working set from which it goes
abbrev pub WalkLeavesSet : Type 0 → Type 0
WalkLeavesSet O = (es : List (Placed O)) → AreEdges es → (w : ℕ) → Each (λ p. Apart p.far (table_numbers (working es w))) (walk (forest es) w)

-- the crossings that go forward
abbrev pub forward_part : {O : Type 0} → List (Crossing O) → List (Crossing O)
forward_part {O} ps = filter (λ (p : Crossing O). not p.backward) ps

-- the forward part of a walk ascends
abbrev pub WalkAscends : Type 0 → Type 0
WalkAscends O = (es : List (Placed O)) → AreEdges es → (w : ℕ) → Rises 0 (crossed (forward_part (walk (forest es) w)))

-- a walk crosses the operators of its own tree and no others
abbrev pub WalkCoversTree : Type 0 → Type 0
WalkCoversTree O = (es : List (Placed O)) → AreEdges es → (w n : ℕ) → In n (numbers es) → In n (crossed (walk (forest es) w)) ↔ (tree (forest es) n ≡ tree (forest es) w)

-- the ways up from two working sets have an operator in common
abbrev pub HangTogether : {O : Type 0} → List (Placed O) → ℕ → ℕ → Type 0
HangTogether es v w = (n : ℕ) × In n (way es v) × In n (way es w)

-- a tree is what hangs together by ways up
abbrev pub TreeHangsTogether : Type 0 → Type 0
TreeHangsTogether O = (es : List (Placed O)) → AreEdges es → (v w : ℕ) → In v (numbers es) → In w (numbers es) → (tree (forest es) v ≡ tree (forest es) w) ↔ HangTogether es v w

-- the working sets that other versions name
abbrev pub other_sets : {O : Type 0} → Drawn O → List ℕ → List ℕ
other_sets g name = version_sets (other_versions g.versions name)

-- an operator is doomed exactly where no other version is at or below it
abbrev pub DoomsUnneeded : Type 0 → Type 0
DoomsUnneeded O = (g : Drawn O) → IsGraph g → (name : List ℕ) (n : ℕ) → In n (numbers g.edges) → In n (doomed (other_sets g name) g.edges) ↔ (HasBelow g.edges (other_sets g name) n → ⊥)

-- an operator stays exactly where another version is at or below it
abbrev pub DropLeavesNeeded : Type 0 → Type 0
DropLeavesNeeded O = (g : Drawn O) → IsGraph g → (name : List ℕ) (n : ℕ) → In n (numbers (dropped g name).edges) ↔ HasBelow g.edges (other_sets g name) n
