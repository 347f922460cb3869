use Rattle.pair_parts.proofs.SplitLaws.{splits_anywhere}
use Rattle.pair_parts.proofs.laws.local_operators_split.Goals as goal

pub returns : goal.returns
returns g c operator = splits_anywhere (g.O.Operator.meaning operator) (g.met.O.Operator.laws operator)
