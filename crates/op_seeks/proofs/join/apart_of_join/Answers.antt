use Rattle.op_seeks.proofs.ApartLemmas.{join_apart}
use Rattle.op_seeks.proofs.join.apart_of_join.Goals as goal

pub returns-clause-apart : goal.returns-clause-apart
returns-clause-apart c =
    let it = c.args.operator.now in
    join_apart it.first it.second it.place c.args.keys.now c.args.crossed.changes.now.tables c.in_ok-ids.ids c.in_ok-ids.ensures.closed c.in_ok-ids.ensures.witness c.args.crossed.backward c.args.crossed.near.now.tables
