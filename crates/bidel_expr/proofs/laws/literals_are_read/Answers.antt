use Rattle.bidel_expr.proofs.LiteralLaws.{literal-reads}
use Rattle.bidel_expr.proofs.laws.literals_are_read.Goals as goal

pub returns : goal.returns
returns c = literal-reads
