-- The accesses of table versions, as they are counted beside a graph.
use Rattle.std.specs.Prelude.{◌≡◌, ℕ, ◌≤◌, Bool, true, is_some, List, [], ◌∷◌, filter, map}
use Rattle.version_graph.specs.Sets.{Each}
use Rattle.version_graph.specs.Edges.{Rises, maker_of}
use Rattle.version_graph.specs.declared.parts.Placed.{Placed}
use Rattle.layout_rules.specs.Lookups.{tables_up}
use Rattle.layout_planner.specs.Costs.{count_of}
use Rattle.layout_planner.specs.declared.planning.TableCount.{TableCount}

-- the tables that were accessed
abbrev pub tables_counted : List TableCount → List ℕ
tables_counted counts = map (λ (c : TableCount). c.table) counts

-- whether the table of a count lives
abbrev pub is_living : {O : Type 0} → List (Placed O) → TableCount → Bool
is_living es c = is_some (maker_of es c.table)

abbrev pub Ascends : List ℕ → Type 0
Ascends [] = Unit {0}
Ascends (t ∷ ts) = Rises t ts

-- COUNTS BESIDE A GRAPH: each table stands once, ascending; it lives, and was accessed
pub record AreCounts {O : Type 0} (es : List (Placed O)) (counts : List TableCount) : Type 0 where
  pub ascending : Ascends (tables_counted counts)
  pub living : Each (λ (c : TableCount). is_living es c ≡ true) counts
  pub accessed : Each (λ (c : TableCount). 1 ≤ c.count) counts

-- those of the tables that live
abbrev pub counts_in : {O : Type 0} → List (Placed O) → List TableCount → List TableCount
counts_in es counts = filter (is_living es) counts

-- the counts of these tables, be they never accessed
abbrev pub counts_for : List TableCount → List ℕ → List TableCount
counts_for counts ts = map (λ (t : ℕ). record { table = t; count = count_of counts t }) ts

-- how often each table version was accessed, ascending
abbrev pub counts_told : {O : Type 0} → List (Placed O) → List TableCount → List TableCount
counts_told es counts = counts_for counts (tables_up es)
