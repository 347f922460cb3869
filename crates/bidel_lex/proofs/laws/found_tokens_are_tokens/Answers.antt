use Rattle.bidel_lex.proofs.ListedLaws.{listed}
use Rattle.bidel_lex.proofs.laws.found_tokens_are_tokens.Goals as goal

pub returns : goal.returns
returns c = listed
