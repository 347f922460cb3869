use Rattle.csv.specs.Records.{fields_of}
use Rattle.csv.proofs.RecordFacts.{text-more}
use Rattle.csv_io.proofs.fields.put_field.Goals as goal

pub returns-clause-texts : goal.returns-clause-texts
returns-clause-texts c = λ texts. rw c.in_ok-push_field.ensures.fields (text-more (fields_of c.args.fields.now) c.args.field.now texts c.utf8.field)
