use Rattle.bidel_expr.proofs.ExpressionLaws.{expression-reads}
use Rattle.bidel_expr.proofs.laws.expressions_are_read.Goals as goal

pub returns : goal.returns
returns c = expression-reads
