use Rattle.op_law.specs.Meaning.{exchanged}
use Rattle.op_seeks.proofs.join.join_back.Goals as goal

pub returns-clause-foot : goal.returns-clause-foot
returns-clause-foot c p n are may = c.in_ok-ids.ensures.foot (exchanged p) n are may
