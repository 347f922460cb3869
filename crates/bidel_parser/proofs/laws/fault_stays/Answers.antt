use Rattle.bidel_parser.proofs.ScriptLaws.{fault_stays}
use Rattle.bidel_parser.proofs.laws.fault_stays.Goals as goal

pub returns : goal.returns
returns c = fault_stays
