use Rattle.fk_parts.proofs.PartLaws.{decompose_keeps_apart, join_keeps_apart}
use Rattle.fk_parts.proofs.laws.closed_keeps_apart.Goals as goal

pub returns-clause-decompose : goal.returns-clause-decompose
returns-clause-decompose c = decompose_keeps_apart

pub returns-clause-join : goal.returns-clause-join
returns-clause-join c = join_keeps_apart
