use Rattle.bidel_expr.proofs.LiteralLaws.{names-reads}
use Rattle.bidel_expr.proofs.laws.names_are_read.Goals as goal

pub returns : goal.returns
returns c = names-reads
