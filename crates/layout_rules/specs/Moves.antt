-- Moves: one operator after the other goes to the side on which the goal has it.
use Rattle.std.specs.Prelude.{◌≡◌, ◌↔◌, ◌⊎◌, ℕ, zero, suc, ◌≤◌, List}
use Rattle.version_graph.specs.Sets.{In}
use Rattle.version_graph.specs.Forest.{Link}

-- the second layout is the first without this operator
pub record TakesOut (n : ℕ) (layout new : List ℕ) : Type 0 where
  pub gone : In n new → ⊥
  pub others : (m : ℕ) → (m ≡ n → ⊥) → In m new ↔ In m layout

-- the second layout is the first with this operator
pub record PutsIn (n : ℕ) (layout new : List ℕ) : Type 0 where
  pub there : In n new
  pub others : (m : ℕ) → (m ≡ n → ⊥) → In m new ↔ In m layout

-- the next operator that goes to its source side: the newest of the layout that the goal lacks
pub record IsDown {O : Type 0} (es : List (Link O)) (layout goal : List ℕ) (e : Link O) : Type 0 where
  pub lives : In e es
  pub stored : In e.number layout
  pub unwanted : In e.number goal → ⊥
  pub newest : (f : Link O) → In f es → In f.number layout → (In f.number goal → ⊥) → f.number ≤ e.number

-- the next operator that goes to its target side, once none goes to its source side: the oldest of the goal that the layout lacks
pub record IsUp {O : Type 0} (es : List (Link O)) (layout goal : List ℕ) (e : Link O) : Type 0 where
  pub lives : In e es
  pub missing : In e.number layout → ⊥
  pub wanted : In e.number goal
  pub none_down : (f : Link O) → In f es → In f.number layout → In f.number goal
  pub oldest : (f : Link O) → In f es → (In f.number layout → ⊥) → In f.number goal → e.number ≤ f.number

-- one flip of a move
abbrev pub Flips : {O : Type 0} → List (Link O) → List ℕ → List ℕ → List ℕ → Type 0
Flips {O} es goal layout new = (e : Link O) × ((IsDown es layout goal e × TakesOut e.number layout new) ⊎ (IsUp es layout goal e × PutsIn e.number layout new))

-- so many flips of a move, from the first layout to the last
abbrev pub Moves : {O : Type 0} → List (Link O) → List ℕ → ℕ → List ℕ → List ℕ → Type 0
Moves es goal zero layout last = layout ≡ last
Moves es goal (suc n) layout last = (next : List ℕ) × Flips es goal layout next × Moves es goal n next last

-- both layouts have the same operators
abbrev pub SameOperators : List ℕ → List ℕ → Type 0
SameOperators layout goal = (n : ℕ) → In n layout ↔ In n goal
