use Rattle.std.proofs.Common.{List, ℕ, subst}
use Rattle.std.proofs.lemmas.List.{take_all}
use Rattle.sought_ids.specs.Sought.{kept_in, ClosesAt}
use Rattle.sought_ids.proofs.SoughtLemmas.{closes_more}
use Rattle.sought_ids.proofs.closed.are_closed.Goals as goal

pub loop-number-preserved : goal.loop-number-preserved
loop-number-preserved g c =
    closes_more g.O.Operator.meaning g.O.Seeks.seeks c.args.graph.now.edges (kept_in c.args.kept) c.args.ids.now c.args.operators.now c.loop-number.number-index c.loop-number-test.true c.loop-number.invariant
    (c.in_ok-is_closed_at.ensures c.if-not-branch.false)

pub returns : goal.returns
returns g c is =
    subst (λ (l : List ℕ). ClosesAt g.O.Operator.meaning g.O.Seeks.seeks c.args.graph.now.edges (kept_in c.args.kept) l c.args.ids.now)
    (take_all c.loop-number.number-index c.args.operators.now c.loop-number-test.false) c.loop-number.invariant
