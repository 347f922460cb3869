-- The new edges of a graph: those from a place on, by ascending number.
use Rattle.std.specs.Prelude.{◌≡◌, ℕ, cond, drop, List, [], ◌∷◌, ◌++◌}
use mathlib.Core.List.{reverse}
use Rattle.version_graph.specs.Edges.{numbers}
use Rattle.version_graph.specs.declared.parts.Placed.{Placed}
use Rattle.layout_rules.specs.Changes.{is_empty}
use Rattle.version_model.specs.Kept.{latest_of, renewed, value_of, numbers_in}
use Rattle.version_model.specs.declared.numbered.Numbered.{Numbered}
use Rattle.db_evolution.specs.declared.fresh.Fresh.{Fresh}

-- the edges from a place on
abbrev pub newer_edges : {O : Type 0} → List (Placed O) → ℕ → List (Placed O)
newer_edges es first = drop first (reverse es)

-- the numbers of the CREATE TABLE operators among edges
abbrev pub creates_in : {O : Type 0} → List (Placed O) → List ℕ
creates_in [] = []
creates_in (e ∷ es) = cond (is_empty e.edge.sources) (e.number ∷ creates_in es) (creates_in es)

-- the tables that they make
abbrev pub created_in : {O : Type 0} → List (Placed O) → List ℕ
created_in [] = []
created_in (e ∷ es) = cond (is_empty e.edge.sources) (e.tables ++ created_in es) (created_in es)

-- the numbers of edges, of the CREATE TABLE operators among them and of the tables that those make, behind others
pub record AddsEdges {O : Type 0} (es : List (Placed O)) (old new : Fresh) : Type 0 where
  pub operators : new.operators ≡ old.operators ++ numbers es
  pub creates : new.creates ≡ old.creates ++ creates_in es
  pub tables : new.tables ≡ old.tables ++ created_in es

-- ---- lists with a place for each number

-- the items with newer values, where both have the number
pub record IsLaidOver {T : Type 0} (items newer all : List (Numbered T)) : Type 0 where
  pub numbers : numbers_in all ≡ numbers_in items
  pub values : (n : ℕ) → value_of all n ≡ renewed (value_of items n) (latest_of newer n)
