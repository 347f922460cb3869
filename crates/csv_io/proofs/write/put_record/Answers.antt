use Rattle.csv.specs.Records.{fields_of}
use Rattle.csv_io.proofs.WriteLemmas.{record_more}
use Rattle.csv_io.proofs.write.put_record.Goals as goal

pub returns-in-Ok : goal.returns-in-Ok
returns-in-Ok c = λ text texts so.
    record_more c.args.writer.now c.write_byte_record.new.self text (fields_of c.args.fields.now) texts so (rw c.as_byte_record.ensures at c.in-Ok.ensures.bytes) c.in-Ok.ensures.ended c.in-Ok.ensures.clean c.in-Ok.ensures.setup
