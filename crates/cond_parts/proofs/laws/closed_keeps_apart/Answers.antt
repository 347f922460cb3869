use Rattle.cond_parts.proofs.PartLaws.{closed_keeps_apart}
use Rattle.cond_parts.proofs.laws.closed_keeps_apart.Goals as goal

pub returns : goal.returns
returns c = closed_keeps_apart
