use Rattle.bidel_expr.proofs.TokenValues.{numbers_have_value}
use Rattle.bidel_expr.proofs.laws.numbers_have_value.Goals as goal

pub returns : goal.returns
returns c = numbers_have_value
