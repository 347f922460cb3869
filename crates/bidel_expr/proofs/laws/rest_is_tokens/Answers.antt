use Rattle.bidel_expr.proofs.TokensWithinLaws.{rest_is_tokens}
use Rattle.bidel_expr.proofs.laws.rest_is_tokens.Goals as goal

pub returns : goal.returns
returns c = rest_is_tokens
