use Rattle.op_seeks.proofs.sought.at_least.Goals as goal

pub returns : goal.returns
returns c = c.in_ok-ids.ensures.begins
