-- Counts with several accesses more, of which those of tables that live are kept.
use Rattle.std.specs.Prelude.{◌≤◌}
use Rattle.std.proofs.Common.{◌≡◌, ℕ, List, true}
use Rattle.version_graph.specs.Sets.{Each}
use Rattle.version_graph.specs.declared.parts.Placed.{Placed}
use Rattle.version_graph.proofs.SetLaws.{each_at, each_of}
use Rattle.version_graph.proofs.TableLaws.{in_filter, passes}
use Rattle.layout_planner.specs.Costs.{count_of}
use Rattle.layout_planner.specs.Counts.{AreCounts, Ascends, counts_in, is_living, tables_counted}
use Rattle.layout_planner.specs.declared.planning.TableCount.{TableCount}
use Rattle.op_any.specs.Operators.{AnyView}
use Rattle.engine_sessions.specs.Accesses.{one_more, raised}
use Rattle.session_laws.proofs.CountLemmas.{ascends_kept, ascends_put, each_raised}

-- each table stands once, ascending, and was accessed
pub record AreRaised (counts : List TableCount) : Type 0 where
  pub ascending : Ascends (tables_counted counts)
  pub accessed : Each (λ (c : TableCount). 1 ≤ c.count) counts

pub counted_raised : (es : List (Placed AnyView)) (counts : List TableCount) → AreCounts es counts → AreRaised counts
counted_raised es counts are = record { ascending = are.ascending; accessed = are.accessed }

pub raised_more : (counts : List TableCount) (t : ℕ) → AreRaised counts → AreRaised (raised counts t)
raised_more counts t are = record {
  ascending = ascends_put (record { table = t; count = one_more (count_of counts t) }) counts are.ascending;
  accessed = each_of (λ (c : TableCount). 1 ≤ c.count) (raised counts t) (λ c i. each_raised counts t are.accessed c i);
}

-- those of the tables that live
pub living_counted : (es : List (Placed AnyView)) (counts : List TableCount) → AreRaised counts → AreCounts es (counts_in es counts)
living_counted es counts are = record {
  ascending = ascends_kept (is_living es) counts are.ascending;
  living = each_of (λ (c : TableCount). is_living es c ≡ true) (counts_in es counts) (λ c i. passes (is_living es) c counts i);
  accessed = each_of (λ (c : TableCount). 1 ≤ c.count) (counts_in es counts) (λ c i. each_at (λ (k : TableCount). 1 ≤ k.count) counts c (in_filter (is_living es) c counts i) are.accessed);
}
