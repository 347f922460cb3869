use Rattle.bidel_parser.proofs.ScriptLaws.{front_leads}
use Rattle.bidel_parser.proofs.laws.front_leads_script.Goals as goal

pub returns : goal.returns
returns c = front_leads
