use Rattle.bidel_lex.proofs.ReadBackLaws.{token_exactly}
use Rattle.bidel_lex.proofs.laws.tokens_come_exactly.Goals as goal

pub returns : goal.returns
returns c = token_exactly
