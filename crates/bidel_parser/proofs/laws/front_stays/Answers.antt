use Rattle.bidel_parser.proofs.ScriptLaws.{front_stays}
use Rattle.bidel_parser.proofs.laws.front_stays.Goals as goal

pub returns : goal.returns
returns c = front_stays
