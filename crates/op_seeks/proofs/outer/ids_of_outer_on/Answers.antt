use Rattle.op_cond_join.specs.Joinings.{joining as joining_on}
use Rattle.op_outer_cond.specs.Outerings.{joining}
use Rattle.op_seeks.proofs.OuterLemmas.{apart_as, foot_as}
use Rattle.op_seeks.proofs.outer.ids_of_outer_on.Goals as goal

pub returns-clause-foot : goal.returns-clause-foot
returns-clause-foot g c =
    foot_as c.in_ok-ids.ids (joining_on c.in_ok-join.join) (joining c.args.operator.now) c.in_ok-join.ensures c.args.crossed.backward c.args.it.now c.args.crossed.near.now.tables c.in_ok-ids.ensures.foot

pub returns-clause-apart : goal.returns-clause-apart
returns-clause-apart g c =
    apart_as c.in_ok-ids.ids (joining_on c.in_ok-join.join) (joining c.args.operator.now) c.in_ok-join.ensures c.args.crossed.backward c.args.it.now c.args.crossed.near.now.tables c.args.crossed.changes.now.tables c.in_ok-ids.ensures.apart
