use Rattle.std.proofs.Common.{◌∙◌, sym, arith}
use Rattle.par_base.proofs.LiteralLaws.{text_answers, reference_only, null_only, int_only}
use Rattle.par_base.proofs.literal.candidate.Goals as goal

pub returns-in-39 : goal.returns-in-39
returns-in-39 c = text_answers c.args.bytes.now c.text_candidate.result (sym c.first_byte.ensures ∙ c.in-39.is) c.text_candidate.ensures

pub returns-in-35 : goal.returns-in-35
returns-in-35 c = reference_only c.args.bytes.now c.reference_candidate.result (sym c.first_byte.ensures ∙ c.in-35.is) c.reference_candidate.ensures

pub returns-in-110 : goal.returns-in-110
returns-in-110 c = null_only c.args.bytes.now (sym c.first_byte.ensures ∙ c.in-110.is)

pub returns-in_default : goal.returns-in_default
returns-in_default c =
    int_only c.args.bytes.now c.int_candidate.result
    (λ e. omega (arith, e, c.first_byte.ensures)) (λ e. omega (arith, e, c.first_byte.ensures)) (λ e. omega (arith, e, c.first_byte.ensures)) c.int_candidate.ensures
