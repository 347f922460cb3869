use Rattle.bidel_expr.proofs.TokenValues.{references_have_value}
use Rattle.bidel_expr.proofs.laws.references_have_value.Goals as goal

pub returns : goal.returns
returns c = references_have_value
