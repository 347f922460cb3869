use Rattle.std.proofs.Common.{◌≡◌, map, take}
use Rattle.csv.specs.Records.{fields_of}
use Rattle.csv_io.specs.Fields.{field_value}
use Rattle.csv_io.proofs.read.read_values.Given as goal

abbrev pub invariant-loop-field : goal.invariant-loop-field
invariant-loop-field l = (l.field-iterator.row.now ≡ l.fields) × (l.values ≡ map field_value (take l.field-iterator.at (fields_of l.fields)))
