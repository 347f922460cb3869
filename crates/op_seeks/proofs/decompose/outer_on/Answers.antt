use Rattle.op_seeks.proofs.decompose.outer_on.Goals as goal

pub returns-clause-foot : goal.returns-clause-foot
returns-clause-foot c p n are may = c.in_ok-ids.ensures.foot p n are may
