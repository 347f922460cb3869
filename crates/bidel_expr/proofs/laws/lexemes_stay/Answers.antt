use Rattle.bidel_expr.proofs.TokensWithinLaws.{lexemes_stay}
use Rattle.bidel_expr.proofs.laws.lexemes_stay.Goals as goal

pub returns : goal.returns
returns c = lexemes_stay
