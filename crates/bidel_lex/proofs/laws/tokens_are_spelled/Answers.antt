use Rattle.bidel_lex.proofs.FoundLaws.{spelled}
use Rattle.bidel_lex.proofs.laws.tokens_are_spelled.Goals as goal

pub returns : goal.returns
returns c = spelled
