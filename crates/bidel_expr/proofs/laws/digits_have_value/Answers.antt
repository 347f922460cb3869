use Rattle.bidel_expr.proofs.DigitLemmas.{digits_have_value}
use Rattle.bidel_expr.proofs.laws.digits_have_value.Goals as goal

pub returns : goal.returns
returns c = digits_have_value
