use Rattle.outer_parts.proofs.PartLaws.{closed_splits}
use Rattle.outer_parts.proofs.laws.closed_splits.Goals as goal

pub returns : goal.returns
returns c = closed_splits
