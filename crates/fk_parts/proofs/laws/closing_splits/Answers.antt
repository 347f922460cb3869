use Rattle.fk_parts.proofs.PartLaws.{decompose_splits, join_splits}
use Rattle.fk_parts.proofs.laws.closing_splits.Goals as goal

pub returns-clause-decompose : goal.returns-clause-decompose
returns-clause-decompose c = decompose_splits

pub returns-clause-join : goal.returns-clause-join
returns-clause-join c = join_splits
