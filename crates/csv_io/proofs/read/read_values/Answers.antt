use Rattle.std.proofs.Common.{◌∙◌, ap, map}
use Rattle.csv.specs.Records.{fields_of}
use Rattle.csv_io.specs.Fields.{field_value}
use Rattle.csv_io.proofs.RowLemmas.{take_fields, value_more}
use Rattle.csv_io.proofs.read.read_values.Goals as goal

pub loop-field-preserved : goal.loop-field-preserved
loop-field-preserved c =
    let inv = c.loop-field.invariant in
    let kept = rw c.in-Some.is at c.next.ensures.steps in
    let s = rw (c.in-Some.is, inv.0) at c.next.ensures.steps in
    let more = value_more (fields_of c.args.fields.now) c.loop-field.field-iterator.at c.in-Some.field.now c.loop-field.values c.push.new.self c.in_ok-read_field.field-0 inv.1 s.1 c.in_ok-read_field.ensures c.in_ok-push.ensures.ok in
    (ap (λ r. r.now) kept.0 ∙ inv.0, rw s.2 more)

pub returns : goal.returns
returns c =
    let inv = c.loop-field.invariant in
    let s = rw (c.in-None.is, inv.0) at c.next.ensures.steps in
    inv.1 ∙ ap (map field_value) (take_fields (fields_of c.args.fields.now) c.loop-field.field-iterator.at s.1)
