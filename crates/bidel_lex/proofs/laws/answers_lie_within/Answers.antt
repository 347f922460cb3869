use Rattle.bidel_lex.proofs.WithinLaws.{within}
use Rattle.bidel_lex.proofs.laws.answers_lie_within.Goals as goal

pub returns : goal.returns
returns c = within
