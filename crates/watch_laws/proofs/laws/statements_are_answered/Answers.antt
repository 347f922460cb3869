use Rattle.watch_laws.proofs.LineLemmas.{statements_end}
use Rattle.watch_laws.proofs.laws.statements_are_answered.Goals as goal

pub returns : goal.returns
returns c = statements_end c.answers_are_lines.ensures c.replies_are_lines.ensures.refusals
