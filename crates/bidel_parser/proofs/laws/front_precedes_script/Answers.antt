use Rattle.bidel_parser.proofs.ScriptLaws.{front_precedes}
use Rattle.bidel_parser.proofs.laws.front_precedes_script.Goals as goal

pub returns : goal.returns
returns c = front_precedes
