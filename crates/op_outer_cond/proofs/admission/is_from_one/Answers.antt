use Rattle.std.proofs.Common.{refl, sym, ◌∙◌}
use Rattle.std.proofs.lemmas.Bool.{false≢true}
use Rattle.op_outer_cond.proofs.AdmissionLemmas.{from_one, none_at_zero}
use Rattle.op_outer_cond.proofs.admission.is_from_one.Goals as goal

pub returns-then-has_row : goal.returns-then-has_row
returns-then-has_row c = (
  λ f. absurd (false≢true f),
  λ rise. absurd (false≢true (sym (none_at_zero c.args.table.now.rows rise) ∙ sym c.has_row.ensures.value ∙ c.if-has_row.true)),
)

pub returns : goal.returns
returns c = (λ yes. from_one c.args.table.now.rows c.has_row.ensures.rise (sym c.has_row.ensures.value ∙ c.if-has_row.false), λ rise. refl)
