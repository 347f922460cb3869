use Rattle.op_seeks.proofs.ApartLemmas.{decompose_apart, outer_apart}
use Rattle.op_seeks.proofs.decompose.apart_of_decompose.Goals as goal

pub returns-clause-apart : goal.returns-clause-apart
returns-clause-apart c =
    let it = c.args.operator.now in
    decompose_apart it.first it.second it.place c.args.keys.now c.args.crossed.changes.now.tables c.in_ok-ids.ids c.in_ok-ids.ensures.closed c.args.crossed.backward c.args.crossed.near.now.tables

pub returns-clause-outer : goal.returns-clause-outer
returns-clause-outer c =
    let it = c.args.operator.now in
    outer_apart it.first it.second it.place c.args.keys.now c.args.crossed.changes.now.tables c.in_ok-ids.ids c.in_ok-ids.ensures.closed c.args.crossed.backward c.args.crossed.near.now.tables
