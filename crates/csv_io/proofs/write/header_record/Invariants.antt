use Rattle.std.proofs.Common.{◌≡◌, take}
use Rattle.csv.specs.Records.{AllText, fields_of}
use Rattle.csv_io.proofs.write.header_record.Given as goal

abbrev pub invariant-loop-name : goal.invariant-loop-name
invariant-loop-name l = (fields_of l.fields ≡ take l.name-index l.header) × AllText (fields_of l.fields)
