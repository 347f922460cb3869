use Rattle.std.proofs.Common.{◌≡◌, map, take}
use Rattle.csv.specs.Records.{AllText, fields_of}
use Rattle.csv_io.specs.Fields.{value_field}
use Rattle.csv_io.proofs.write.row_record.Given as goal

abbrev pub invariant-loop-value : goal.invariant-loop-value
invariant-loop-value l = (fields_of l.fields ≡ map value_field (take l.value-index l.row)) × AllText (fields_of l.fields)
