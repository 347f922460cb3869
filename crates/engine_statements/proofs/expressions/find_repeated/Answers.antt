use Rattle.std.proofs.Common.{◌∙◌, sym}
use Rattle.engine_statements.proofs.RepeatedLemmas.{repeated_here, repeated_past}
use Rattle.engine_statements.proofs.expressions.find_repeated.Goals as goal

pub returns-then-is_set : goal.returns-then-is_set
returns-then-is_set c =
    sym (repeated_here c.args.assignments.now c.loop-at.at c.index-assignments-at.result c.loop-at-test.true c.index-assignments-at.is (sym c.is_set.ensures ∙ c.if-is_set.true)) ∙ c.loop-at.invariant

pub loop-at-preserved : goal.loop-at-preserved
loop-at-preserved c =
    sym (repeated_past c.args.assignments.now c.loop-at.at c.index-assignments-at.result c.loop-at-test.true c.index-assignments-at.is (sym c.is_set.ensures ∙ c.if-is_set.false)) ∙ c.loop-at.invariant
