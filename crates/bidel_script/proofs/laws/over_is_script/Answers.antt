use Rattle.bidel_script.proofs.ScriptLaws.{over_is_script}
use Rattle.bidel_script.proofs.laws.over_is_script.Goals as goal

pub returns : goal.returns
returns c = over_is_script
