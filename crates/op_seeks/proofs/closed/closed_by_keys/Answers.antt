use Rattle.op_seeks.proofs.closed.closed_by_keys.Goals as goal

pub returns-clause-closed : goal.returns-clause-closed
returns-clause-closed c = (c.args.wanted.now, c.in_ok-ids.ensures.closing)

pub returns-clause-holds : goal.returns-clause-holds
returns-clause-holds c = c.in_ok-ids.ensures.closing.begins
