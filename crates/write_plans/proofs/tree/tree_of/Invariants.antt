use Rattle.std.proofs.Common.{ℕ}
use Rattle.version_graph.specs.Sets.{In}
use Rattle.version_graph.specs.Tables.{table_numbers}
use Rattle.version_graph.specs.Edges.{made}
use Rattle.write_plans.specs.Trees.{missing}
use Rattle.write_plans.proofs.SpreadLemmas.{InRoot}
use Rattle.write_plans.proofs.tree.tree_of.Given as goal

abbrev pub invariant-loop-tables : goal.invariant-loop-tables
invariant-loop-tables g l = record {
  held : In l.table l.tables;
  from : (t : ℕ) → In t l.tables → InRoot l.graph.edges l.set t;
}

abbrev pub decreases-loop-tables : goal.decreases-loop-tables
decreases-loop-tables g l = missing (table_numbers (made l.graph.edges)) l.tables
