use Rattle.layout_rules.proofs.DownLaws.{below}
use Rattle.version_model.specs.Kept.{rows_now}
use Rattle.db_check.specs.inner.Calls.{WasUp}
use Rattle.db_check.proofs.passing.admit_up.Given as goal

abbrev pub invariant-loop-place : goal.invariant-loop-place
invariant-loop-place g l = WasUp g.O.Operator.meaning l.parts (below l.parts.graph.edges l.place) (rows_now l.parts.stored l.made)
