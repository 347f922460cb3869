-- What a write can reach, and the state cut down to it.
use Rattle.std.specs.Prelude.{◌≡◌, ◌⊎◌, ◌||◌, not, ℕ, ◌<◌, Bool, true, false, List, filter, length, map, if◌then◌else◌, []}
use Rattle.std.specs.List.{list_any}
use Rattle.version_graph.specs.Sets.{Each, In, Within}
use Rattle.version_graph.specs.Edges.{is_in}
use Rattle.version_graph.specs.Forest.{Crossing, crossed, step_told}
use Rattle.version_graph.specs.declared.parts.Placed.{Placed}
use Rattle.version_graph.specs.declared.parts.Step.{Step}
use Rattle.op_law.specs.Local.{rows_only}
use Rattle.pair_parts.specs.Parts.{memory_only}
use Rattle.version_model.specs.Calls.{IsCrossing}
use Rattle.version_model.specs.States.{State}
use Rattle.changes_walk.specs.Reach.{IsReach}
use Rattle.write_plans.specs.declared.tree.Tree.{Tree}

-- it is all that a write of this table of the working set can reach
abbrev pub IsTree : {O : Type 0} → List (Placed O) → ℕ → ℕ → Tree → Type 0
IsTree es set table tree = IsReach es set table tree.operators tree.tables

-- of one tree's tables the rows of some identifiers alone, and of its memories their entries
abbrev pub part : (ℕ → Bool) → Tree → State → State
part test tree s = record {
  tables = λ t. if is_in t tree.tables then rows_only test (s.tables t) else [];
  memory = λ n. if is_in n tree.operators then memory_only test (s.memory n) else [];
  next = s.next;
}

-- ---- how it is found

-- the steps tell of these crossings, each over a live operator
pub record AreTold {O : Type 0} (es : List (Placed O)) (steps : List Step) (ps : List (Crossing O)) : Type 0 where
  pub crossings : Each (IsCrossing es) ps
  pub told : steps ≡ map step_told ps

-- the step tells of one
abbrev pub IsStep : {O : Type 0} → List (Placed O) → Step → Type 0
IsStep {O} es step = (p : Crossing O) × IsCrossing es p × (step_told p ≡ step)

abbrev pub IsWalked : {O : Type 0} → List (Placed O) → List Step → Type 0
IsWalked {O} es steps = (ps : List (Crossing O)) × AreTold es steps ps

-- one of these tables is on a side of the crossing
abbrev pub touches : {O : Type 0} → List ℕ → Crossing O → Bool
touches tables p = list_any (λ t. is_in t tables) p.near || list_any (λ t. is_in t tables) p.far

-- the operators of the crossings of which that is so, in their order
abbrev pub touched_of : {O : Type 0} → List ℕ → List (Crossing O) → List ℕ
touched_of tables ps = crossed (filter (touches tables) ps)

-- how many of these numbers aren't among those
abbrev pub missing : List ℕ → List ℕ → ℕ
missing all ns = length (filter (λ n. not (is_in n ns)) all)

-- these were added, where they weren't there, and no others; `more` tells whether there were any
pub record Adds (some old new : List ℕ) (more : Bool) : Type 0 where
  pub stay : Within old new
  pub has : Within some new
  pub only : (n : ℕ) → In n new → In n old ⊎ In n some
  pub same : more ≡ false → new ≡ old
  pub less : more ≡ true → (all : List ℕ) → Within some all → missing all new < missing all old

-- a crossing that has one of the tables on a side has all of its own among them
abbrev pub IsClosedAt : {O : Type 0} → List ℕ → Crossing O → Type 0
IsClosedAt tables p = touches tables p ≡ true → Within p.near tables × Within p.far tables

-- the tables of a crossing were added, where it has one of them on a side; if none was, it is closed
pub record SpreadsOver {O : Type 0} (p : Crossing O) (old new : List ℕ) (more : Bool) : Type 0 where
  pub stay : Within old new
  pub only : (n : ℕ) → In n new → In n old ⊎ (In n p.near ⊎ In n p.far)
  pub same : more ≡ false → new ≡ old
  pub closed : more ≡ false → IsClosedAt new p
  pub less : more ≡ true → (all : List ℕ) → Within p.near all → Within p.far all → missing all new < missing all old

-- likewise those of all crossings in turn
pub record Spreads {O : Type 0} (ps : List (Crossing O)) (old new : List ℕ) (more : Bool) : Type 0 where
  pub stay : Within old new
  pub only : (n : ℕ) → In n new → In n old ⊎ ((p : Crossing O) × In p ps × (In n p.near ⊎ In n p.far))
  pub same : more ≡ false → new ≡ old
  pub closed : more ≡ false → Each (IsClosedAt new) ps
  pub less : more ≡ true → (all : List ℕ) → Each (λ (p : Crossing O). Within p.near all × Within p.far all) ps → missing all new < missing all old
