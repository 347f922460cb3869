use Rattle.std.proofs.Common.{◌≤◌, length}
use Rattle.layout_rules.proofs.DownLaws.{below}
use Rattle.version_model.specs.Kept.{rows_now}
use Rattle.db_check.specs.inner.Calls.{WasDown}
use Rattle.db_check.proofs.passing.admit_down.Given as goal

abbrev pub invariant-loop-left : goal.invariant-loop-left
invariant-loop-left g l = record {
  within : l.left ≤ length l.parts.graph.edges;
  so_far : WasDown g.O.Operator.meaning l.parts (below l.parts.graph.edges l.left) (rows_now l.parts.stored l.made);
}

abbrev pub decreases-loop-left : goal.decreases-loop-left
decreases-loop-left g l = l.left
