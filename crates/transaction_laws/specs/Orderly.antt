-- What is always so beside the data that sessions stand on.
use Rattle.std.specs.Prelude.{◌≡◌, ◌≤◌, true}
use Rattle.version_graph.specs.Sets.{Each, In}
use Rattle.version_graph.specs.Tables.{table_numbers}
use Rattle.version_graph.specs.Edges.{made, numbers, version_sets}
use Rattle.layout_planner.specs.Counts.{is_living}
use Rattle.layout_planner.specs.declared.planning.TableCount.{TableCount}
use Rattle.engine_transactions.specs.EngineSessionsStanding.{Standing}

-- no number is above the last ones given; and what is in the layout, is pending or was counted is of operators and tables that live
pub record IsOrderly (s : Standing) : Type 0 where
  pub operators : Each (λ n. n ≤ s.laid.database.graph.last_operator) (numbers s.laid.database.graph.edges)
  pub tables : Each (λ t. t ≤ s.laid.database.graph.last_table) (table_numbers (made s.laid.database.graph.edges))
  pub sets : Each (λ n. n ≤ s.laid.database.graph.last_operator) (version_sets s.laid.database.graph.versions)
  pub layout : Each (λ n. In n (numbers s.laid.database.graph.edges)) s.laid.layout
  pub pending : Each (λ n. In n (numbers s.laid.database.graph.edges)) s.pending
  pub counts : Each (λ (c : TableCount). is_living s.laid.database.graph.edges c ≡ true) s.counts
