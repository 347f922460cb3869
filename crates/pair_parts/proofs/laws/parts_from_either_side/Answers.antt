use Rattle.pair_parts.proofs.SplitLaws.{keeps_behind, splits_behind}
use Rattle.pair_parts.proofs.laws.parts_from_either_side.Goals as goal

pub returns-clause-splits : goal.returns-clause-splits
returns-clause-splits g c operator = splits_behind (g.O.Operator.meaning operator)

pub returns-clause-keeps : goal.returns-clause-keeps
returns-clause-keeps g c operator = keeps_behind (g.O.Operator.meaning operator)
