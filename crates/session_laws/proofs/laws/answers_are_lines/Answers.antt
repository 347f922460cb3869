use Rattle.session_laws.proofs.LineLemmas.{answers_end}
use Rattle.session_laws.proofs.laws.answers_are_lines.Goals as goal

pub returns : goal.returns
returns c = answers_end c.replies_are_lines.ensures.replies
