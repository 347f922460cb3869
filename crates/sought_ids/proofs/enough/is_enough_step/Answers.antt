use Rattle.std.proofs.Common.{sym, ◌∙◌}
use Rattle.sought_ids.specs.Sought.{kept_in, SeesOver}
use Rattle.sought_ids.proofs.SoughtLemmas.{step_passed}
use Rattle.sought_ids.proofs.enough.is_enough_step.Goals as goal

pub returns-then-not-holds : goal.returns-then-not-holds
returns-then-not-holds g c is =
    let carried = c.args.carried in
    step_passed c.args.graph.now.edges carried.operators.now (SeesOver g.O.Operator.meaning g.O.Seeks.seeks (kept_in carried.kept) carried.made.now c.args.ids.now) c.args.step (sym c.holds.ensures ∙ c.if-not-holds.true)
