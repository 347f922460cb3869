use Rattle.bidel_lex.proofs.Faults.{faults_are_first}
use Rattle.bidel_lex.proofs.laws.faults_come_first.Goals as goal

pub returns : goal.returns
returns c = faults_are_first
