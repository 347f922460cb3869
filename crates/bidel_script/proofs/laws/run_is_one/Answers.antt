use Rattle.bidel_script.proofs.ComesLaws.{run_is_one}
use Rattle.bidel_script.proofs.laws.run_is_one.Goals as goal

pub returns : goal.returns
returns c = run_is_one
