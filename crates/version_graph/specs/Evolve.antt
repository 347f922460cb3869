-- An evolution: new edges, each on the working set before it, and a name for the last one.
use Rattle.std.specs.Prelude.{◌≡◌, ℕ, ◌+◌, nat_le, nat_lt, ◌||◌, List, [], ◌∷◌, ◌++◌, length, Option, Some, None, unwrap_or, Result, Ok, Err, if◌then◌else◌}
use Rattle.par_base.specs.declared.fault.Fault.{Fault}
use Rattle.par_base.specs.declared.fault.Fault.TheVariants.{Refused, Memory}
use Rattle.par_base.specs.declared.refusal.Refusal.{Refusal}
use Rattle.par_base.specs.declared.refusal.Refusal.TheVariants.{UnknownVersion, VersionExists, TooManyOperators}
use Rattle.version_graph.specs.Tables.{headings_of, FitInOrder}
use Rattle.version_graph.specs.Edges.{Drawn, IsGraph, working, set_named, operator_limit}
use Rattle.version_graph.specs.declared.parts.Edge.{Edge}
use Rattle.version_graph.specs.declared.parts.Placed.{Placed}

-- as many numbers as there are items, after the last one
abbrev pub numbers_after : {X : Type 0} → ℕ → List X → List ℕ
numbers_after last [] = []
numbers_after last (x ∷ xs) = (last + 1) ∷ numbers_after (last + 1) xs

-- an edge under the next numbers
abbrev pub placed_next : {O : Type 0} → ℕ → ℕ → ℕ → Edge O → Placed O
placed_next parent operator table e = record { number = operator + 1; parent = parent; tables = numbers_after table e.targets; edge = e }

-- the edges with further ones, each on the working set that the one before it leaves
abbrev pub grown : {O : Type 0} → List (Placed O) → ℕ → ℕ → ℕ → List (Edge O) → List (Placed O)
grown es parent operator table [] = es
grown es parent operator table (e ∷ edges) = grown (placed_next parent operator table e ∷ es) (operator + 1) (operator + 1) (table + length e.targets) edges

-- how many tables edges make
abbrev pub targets_in : {O : Type 0} → List (Edge O) → ℕ
targets_in [] = 0
targets_in (e ∷ edges) = length e.targets + targets_in edges

-- the graph after an evolution that starts at a working set
abbrev pub evolved : {O : Type 0} → Drawn O → List ℕ → ℕ → List (Edge O) → Drawn O
evolved g name w edges = record {
  edges = grown g.edges w g.last_operator g.last_table edges;
  versions = g.versions ++ (name, g.last_operator + length edges) ∷ [];
  last_operator = g.last_operator + length edges;
  last_table = g.last_table + targets_in edges;
}

-- an evolution made the graph of this one, which had so many operators, after these last numbers
pub record IsEvolvedFrom {O : Type 0} (before : Drawn O) (operators last_operator last_table : ℕ) (now : Drawn O) : Type 0 where
  pub graph : IsGraph before
  pub counted : operators ≡ length before.edges
  pub operator : last_operator ≡ before.last_operator
  pub table : last_table ≡ before.last_table
  pub evolved : (name : List ℕ) × (w : ℕ) × (edges : List (Edge O)) × (now ≡ evolved before name w edges)

-- ---- refusals

-- the greatest number of an operator or a table
abbrev pub number_limit : ℕ
number_limit = 4294967295

-- the working set from which an evolution starts: that of the named version, else the empty one
abbrev pub start_of : List (List ℕ × ℕ) → Option (List ℕ) → Option ℕ
start_of versions None = Some 0
start_of versions (Some name) = set_named versions name

-- whether one more edge with so many targets passes no limit, or which it passes
abbrev pub limit_at : ℕ → ℕ → ℕ → ℕ → Option ℕ
limit_at live operator table targets =
    if nat_le operator_limit live then Some operator_limit else (if nat_le number_limit operator || nat_lt number_limit (table + targets) then Some number_limit else None)

abbrev pub later : Option ℕ → Option ℕ → Option ℕ
later None o = o
later (Some limit) o = Some limit

-- the limit that the first edge passes which passes one
abbrev pub limit_passed : {O : Type 0} → ℕ → ℕ → ℕ → List (Edge O) → Option ℕ
limit_passed live operator table [] = None
limit_passed live operator table (e ∷ edges) = later (limit_at live operator table (length e.targets)) (limit_passed (live + 1) (operator + 1) (table + length e.targets) edges)

abbrev pub refused_limit : Option ℕ → Option Refusal
refused_limit None = None
refused_limit (Some limit) = Some (TooManyOperators limit)

abbrev pub refused_name : List ℕ → Option ℕ → Option Refusal → Option Refusal
refused_name name (Some w) more = Some (VersionExists name)
refused_name name None more = more

abbrev pub refused_start : Option (List ℕ) → Option ℕ → Option Refusal → Option Refusal
refused_start from (Some w) more = more
refused_start None None more = more
refused_start (Some name) None more = Some (UnknownVersion name)

-- why an evolution is refused: FROM is no live version, else the name is one, else an edge passes a limit
abbrev pub refusal_of : {O : Type 0} → Drawn O → List ℕ → Option (List ℕ) → List (Edge O) → Option Refusal
refusal_of g name from edges =
    refused_start from (start_of g.versions from) (refused_name name (set_named g.versions name) (refused_limit (limit_passed (length g.edges) g.last_operator g.last_table edges)))

-- each edge fits the working set before it, where there is one to start from
abbrev pub MayEvolve : {O : Type 0} → Drawn O → Option (List ℕ) → List (Edge O) → Type 0
MayEvolve g from edges = (w : ℕ) → start_of g.versions from ≡ Some w → FitInOrder (headings_of (working g.edges w)) edges

-- what an evolution answers, and the graph after it
abbrev pub EvolvesGraph : {O : Type 0} → Drawn O → List ℕ → Option (List ℕ) → List (Edge O) → Result ℕ (Fault Refusal) → Drawn O → Type 0
EvolvesGraph g name from edges (Ok set) new =
    (refusal_of g name from edges ≡ None) × (new ≡ evolved g name (unwrap_or (start_of g.versions from) 0) edges) × (set ≡ new.last_operator)
EvolvesGraph g name from edges (Err (Refused r)) new = (refusal_of g name from edges ≡ Some r) × (new ≡ g)
EvolvesGraph g name from edges (Err (Memory memory)) new = new ≡ g
