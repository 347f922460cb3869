-- Which operators and tables the changes of a write can reach.
use Rattle.std.specs.Prelude.{◌≡◌, ◌⊎◌, ℕ, List, filter}
use Rattle.version_graph.specs.Sets.{In}
use Rattle.version_graph.specs.Tables.{table_numbers}
use Rattle.version_graph.specs.Edges.{is_in, made}
use Rattle.version_graph.specs.Forest.{Crossing, Link, crossed, forest, walk}
use Rattle.version_graph.specs.declared.parts.Placed.{Placed}

-- the table is on one of the operator's sides
abbrev pub IsBeside : {O : Type 0} → ℕ → Link O → Type 0
IsBeside t e = In t e.sources ⊎ In t e.targets

-- an operator is among these numbers exactly where its tables are among those, and all of them live
pub record IsWhole {O : Type 0} (es : List (Placed O)) (ns ts : List ℕ) : Type 0 where
  pub tables : (e : Link O) → In e (forest es) → In e.number ns → (t : ℕ) → IsBeside t e → In t ts
  pub operators : (e : Link O) → In e (forest es) → (t : ℕ) → In t ts → IsBeside t e → In e.number ns
  pub live : (t : ℕ) → In t ts → In t (table_numbers (made es))

-- the crossings of a walk that are over these operators
abbrev pub reached : {O : Type 0} → List ℕ → List (Crossing O) → List (Crossing O)
reached {O} operators ps = filter (λ (p : Crossing O). is_in p.number operators) ps

-- WHAT A WRITE OF A TABLE CAN REACH: the operators of a walk, in its order, whose tables hang together with the written one, and these tables
pub record IsReach {O : Type 0} (es : List (Placed O)) (set table : ℕ) (operators tables : List ℕ) : Type 0 where
  pub held : In table tables
  pub whole : IsWhole es operators tables
  pub listed : operators ≡ crossed (reached operators (walk (forest es) set))
