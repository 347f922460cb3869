use Rattle.bidel_parser.proofs.ScriptLaws.{no_script}
use Rattle.bidel_parser.proofs.laws.no_front_is_no_script.Goals as goal

pub returns : goal.returns
returns c = no_script
