use Rattle.std.proofs.Common.{◌∙◌, sym}
use Rattle.csv_io.proofs.FieldLemmas.{id_other, id_parsed, id_unparsed}
use Rattle.csv_io.proofs.fields.read_id.Goals as goal

pub returns-in_default : goal.returns-in_default
returns-in_default c = id_unparsed c.args.digits.now c.parse.result c.in_default.field-0 c.parse.ensures.value.0 c.in_default.is

pub returns-then-is_same : goal.returns-then-is_same
returns-then-is_same c =
    let same = c.is_same.ensures.0 c.if-is_same.true in
    id_parsed c.args.digits.now c.parse.result c.in-Ok.id c.parse.ensures.value.0 c.in-Ok.is (same ∙ c.as_str.ensures.value ∙ c.in_ok-again.ensures.ok)

pub returns : goal.returns
returns c =
    id_other c.args.digits.now c.parse.result c.in-Ok.id c.parse.ensures.value.0 c.in-Ok.is (λ text.
    let same = c.is_same.ensures.1 (text ∙ sym (c.as_str.ensures.value ∙ c.in_ok-again.ensures.ok)) in cc)
