use Rattle.bidel_lex.proofs.Again.{again}
use Rattle.bidel_lex.proofs.laws.tokens_come_again.Goals as goal

pub returns : goal.returns
returns c = again
