use Rattle.expr_lang.proofs.ResolvingLaws.{resolved-refused}
use Rattle.expr_lang.proofs.laws.resolve_refuses.Goals as goal

pub returns : goal.returns
returns c = λ columns t. resolved-refused columns t
