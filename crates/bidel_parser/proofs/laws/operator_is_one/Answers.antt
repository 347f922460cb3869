use Rattle.bidel_parser.proofs.WholeOperatorLaws.{one_operator}
use Rattle.bidel_parser.proofs.laws.operator_is_one.Goals as goal

pub returns : goal.returns
returns c = one_operator
