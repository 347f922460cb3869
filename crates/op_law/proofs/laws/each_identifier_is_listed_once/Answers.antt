use Rattle.op_law.proofs.IdentifierLaws.{none_stands_twice, all_with_rows}
use Rattle.op_law.proofs.laws.each_identifier_is_listed_once.Goals as goal

pub returns-clause-once : goal.returns-clause-once
returns-clause-once c = none_stands_twice

pub returns-clause-all : goal.returns-clause-all
returns-clause-all c = all_with_rows
