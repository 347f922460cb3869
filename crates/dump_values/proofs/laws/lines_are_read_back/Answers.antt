use Rattle.dump_values.proofs.BackLaws.{aux_back, memory_back, operator_back, stored_back, version_back}
use Rattle.dump_values.proofs.laws.lines_are_read_back.Goals as goal

pub returns-clause-auxes : goal.returns-clause-auxes
returns-clause-auxes c = aux_back

pub returns-clause-memories : goal.returns-clause-memories
returns-clause-memories c = memory_back

pub returns-clause-operators : goal.returns-clause-operators
returns-clause-operators c = operator_back

pub returns-clause-stored : goal.returns-clause-stored
returns-clause-stored c = stored_back

pub returns-clause-versions : goal.returns-clause-versions
returns-clause-versions c = version_back
