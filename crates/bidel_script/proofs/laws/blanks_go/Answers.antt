use Rattle.bidel_script.proofs.BlanksLaws.{blanks_go}
use Rattle.bidel_script.proofs.laws.blanks_go.Goals as goal

pub returns : goal.returns
returns c = blanks_go
