use Rattle.expr_lang.proofs.ResolvingLaws.{resolved-means}
use Rattle.expr_lang.proofs.laws.resolve_means.Goals as goal

pub returns : goal.returns
returns c = λ columns row t e found. rw found at (resolved-means columns row t)
