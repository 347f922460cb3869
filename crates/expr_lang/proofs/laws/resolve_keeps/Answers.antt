use Rattle.expr_lang.proofs.ResolvingLaws.{resolved-fits}
use Rattle.expr_lang.proofs.laws.resolve_keeps.Goals as goal

pub returns : goal.returns
returns c = λ columns t e found. rw found at (resolved-fits columns t)
