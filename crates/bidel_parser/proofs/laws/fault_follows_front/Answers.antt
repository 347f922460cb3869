use Rattle.bidel_parser.proofs.ScriptLaws.{fault_follows}
use Rattle.bidel_parser.proofs.laws.fault_follows_front.Goals as goal

pub returns : goal.returns
returns c = fault_follows
