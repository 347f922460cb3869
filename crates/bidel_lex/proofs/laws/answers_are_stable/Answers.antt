use Rattle.bidel_lex.proofs.StableLaws.{stable}
use Rattle.bidel_lex.proofs.laws.answers_are_stable.Goals as goal

pub returns : goal.returns
returns c = stable
