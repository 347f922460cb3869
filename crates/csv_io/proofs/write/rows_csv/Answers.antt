use Rattle.std.specs.Prelude.{IsUtf8}
use Rattle.std.proofs.Common.{◌∙◌, [], ap, map, refl, subst, sym, take, take_all}
use Rattle.std.proofs.lemmas.Str.{IsUtf8-nil}
use Rattle.csv.specs.Records.{fields_of}
use Rattle.csv.specs.Writing.{default_writer, row_text}
use Rattle.csv_io.specs.Fields.{value_field}
use Rattle.csv_io.specs.Tables.{csv_text}
use Rattle.csv_io.specs.inner.Writing.{HasWritten}
use Rattle.csv_io.proofs.WriteLemmas.{kept, row_line, text_start}
use Rattle.csv_io.proofs.write.rows_csv.Goals as goal

pub loop-row-init : goal.loop-row-init
loop-row-init c =
    let from = c.from_writer-writer.ensures in
    let start : HasWritten c.from_writer-writer.result [] = record {
      setup = from.cfg ∙ c.new.ensures;
      fields = from.fields;
      fresh = from.wrote;
      bytes = rw (from.wtr, c.new-2.ensures.items, from.empty) refl;
      utf8 = IsUtf8-nil;
    } in
    let more = c.in_ok-put_record.ensures [] c.in_ok-header_record.ensures.texts start in
    subst (HasWritten c.put_record-2.new.writer) (ap (row_text default_writer) c.in_ok-header_record.ensures.ok ∙ sym (text_start c.args.header.now)) more

pub loop-row-preserved : goal.loop-row-preserved
loop-row-preserved c =
    let done = csv_text c.args.header.now (take c.loop-row.row-index c.args.rows.now) in
    let more = c.in_ok-put_record-2.ensures done c.in_ok-row_record.ensures.texts c.loop-row.invariant in
    subst (HasWritten c.put_record-in-loop-row-2.new.writer)
    (row_line c.args.header.now c.args.rows.now c.loop-row.row-index c.row-item.result (fields_of c.in_ok-row_record.field-0) c.loop-row-test.true c.row-item.is
    (c.in_ok-row_record.ensures.ok ∙ ap (map value_field) c.as_slice.ensures)) more

pub text_of-requires : goal.text_of-requires
text_of-requires c =
    let inv = c.loop-row.invariant in
    subst IsUtf8 (sym (kept c.loop-row.writer c.in-Ok.bytes.items _ inv c.in-Ok.ensures.ok)) inv.utf8

pub returns-in-Ok : goal.returns-in-Ok
returns-in-Ok c =
    let inv = c.loop-row.invariant in
    c.text_of.ensures ∙ kept c.loop-row.writer c.in-Ok.bytes.items _ inv c.in-Ok.ensures.ok
    ∙ ap (csv_text c.args.header.now) (take_all _ _ c.loop-row-test.false)
