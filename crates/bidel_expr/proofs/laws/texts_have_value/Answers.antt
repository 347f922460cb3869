use Rattle.bidel_expr.proofs.TokenValues.{texts_have_value}
use Rattle.bidel_expr.proofs.laws.texts_have_value.Goals as goal

pub returns : goal.returns
returns c = texts_have_value
