use Rattle.bidel_expr.proofs.LiteralLaws.{tuple-reads}
use Rattle.bidel_expr.proofs.laws.tuples_are_read.Goals as goal

pub returns : goal.returns
returns c = tuple-reads
