use Rattle.std.proofs.Common.{◌≡◌, ◌*◌, ◌≤◌, ◌^◌, sum_by, take}
use Rattle.layout_planner.specs.Costs.{table_cost}
use Rattle.layout_planner.proofs.reckoning.tables_cost.Given as goal

abbrev pub invariant-loop-table : goal.invariant-loop-table
invariant-loop-table g l = record {
  total : l.total ≡ sum_by (table_cost l.graph.edges l.layout.operators l.counts) (take l.table-index l.tables);
  few : l.total ≤ l.table-index * 2 ^ 74;
}
