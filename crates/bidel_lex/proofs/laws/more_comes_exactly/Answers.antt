use Rattle.bidel_lex.proofs.Changes.{more_exactly}
use Rattle.bidel_lex.proofs.laws.more_comes_exactly.Goals as goal

pub returns : goal.returns
returns c = more_exactly
