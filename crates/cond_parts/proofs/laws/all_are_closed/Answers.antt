use Rattle.cond_parts.proofs.WholeLaws.{all_are_closed}
use Rattle.cond_parts.proofs.laws.all_are_closed.Goals as goal

pub returns : goal.returns
returns c = all_are_closed
