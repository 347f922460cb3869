use Rattle.csv_io.proofs.FieldLemmas.{int_unparsed}
use Rattle.csv_io.proofs.fields.read_int.Goals as goal

pub returns-in_default : goal.returns-in_default
returns-in_default c = int_unparsed c.args.field.now c.parse.result c.in_default.field-0 c.parse.ensures.value.0 c.in_default.is
