use Rattle.bidel_script.proofs.ScriptLaws.{one_script}
use Rattle.bidel_script.proofs.laws.script_is_one.Goals as goal

pub returns : goal.returns
returns c = one_script
