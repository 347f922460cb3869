use Rattle.engine_core.proofs.LineLemmas.{refusals_end, replies_end}
use Rattle.engine_core.proofs.laws.replies_are_lines.Goals as goal

pub returns-clause-replies : goal.returns-clause-replies
returns-clause-replies c = replies_end

pub returns-clause-refusals : goal.returns-clause-refusals
returns-clause-refusals c = refusals_end
