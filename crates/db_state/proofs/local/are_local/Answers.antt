use Rattle.std.proofs.Common.{inl}
use Rattle.version_graph.proofs.WalkStepLaws.{in_at}
use Rattle.db_state.proofs.LocalLemmas.{local_more, one_local}
use Rattle.db_state.proofs.local.are_local.Goals as goal

pub loop-number-preserved : goal.loop-number-preserved
loop-number-preserved g c =
    local_more g.O.Operator.meaning c.args.graph.now.edges c.args.operators.now c.loop-number.number-index c.loop-number-test.true c.loop-number.invariant
    (λ e at same. c.is_local_at.ensures.local c.if-not-is_local_at.false e at (inl same))

pub returns-then-not-is_local_at-clause-all : goal.returns-then-not-is_local_at-clause-all
returns-then-not-is_local_at-clause-all g c all =
    let i = c.loop-number.number-index in
    let one = one_local g.O.Operator.meaning c.args.graph.now.edges c.args.operators.now _ (in_at c.args.operators.now i 0 c.loop-number-test.true) all in
    let here = c.is_local_at.ensures.all one in
    cc
