use Rattle.bidel_parser.proofs.ScriptLaws.{one_front}
use Rattle.bidel_parser.proofs.laws.front_is_one.Goals as goal

pub returns : goal.returns
returns c = one_front
