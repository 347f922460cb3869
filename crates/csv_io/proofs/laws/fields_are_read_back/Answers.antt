use Rattle.csv_io.proofs.FieldLemmas.{field_kept, value_back}
use Rattle.csv_io.proofs.laws.fields_are_read_back.Goals as goal

pub returns-clause-kept : goal.returns-clause-kept
returns-clause-kept c = field_kept

pub returns-clause-back : goal.returns-clause-back
returns-clause-back c = value_back
