use Rattle.dump_values.proofs.BackLaws.{numbers_back, pairs_back, row_back, table_back, value_back}
use Rattle.dump_values.proofs.laws.values_are_read_back.Goals as goal

pub returns-clause-numbers : goal.returns-clause-numbers
returns-clause-numbers c = numbers_back

pub returns-clause-pairs : goal.returns-clause-pairs
returns-clause-pairs c = pairs_back

pub returns-clause-rows : goal.returns-clause-rows
returns-clause-rows c = row_back

pub returns-clause-tables : goal.returns-clause-tables
returns-clause-tables c = table_back

pub returns-clause-values : goal.returns-clause-values
returns-clause-values c = value_back
