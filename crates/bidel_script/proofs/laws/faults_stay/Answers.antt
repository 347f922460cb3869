use Rattle.bidel_script.proofs.CutLaws.{faults_stay}
use Rattle.bidel_script.proofs.laws.faults_stay.Goals as goal

pub returns : goal.returns
returns c = faults_stay
