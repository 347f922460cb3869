use Rattle.bidel_script.proofs.CutLaws.{fronts_come_first}
use Rattle.bidel_script.proofs.laws.fronts_come_first.Goals as goal

pub returns : goal.returns
returns c = fronts_come_first
