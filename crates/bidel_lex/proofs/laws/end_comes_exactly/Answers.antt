use Rattle.bidel_lex.proofs.ReadBackLaws.{end_exactly}
use Rattle.bidel_lex.proofs.laws.end_comes_exactly.Goals as goal

pub returns : goal.returns
returns c = end_exactly
